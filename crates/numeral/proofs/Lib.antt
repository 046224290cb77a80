pub mod NumeralFacts
