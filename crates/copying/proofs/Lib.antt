pub mod AllLines
