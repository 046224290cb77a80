use Rattle.grammar.proofs.grammar_stands.Goals as goal
use Rattle.grammar.proofs.Sound.{sound}
use Rattle.grammar.proofs.Complete.{complete}
use Rattle.grammar.proofs.Refused.{unique, first_refused, too_short, exact}
use Rattle.grammar.proofs.Limited.{profiled, accepted_exactly, six_exactly, seven_exactly, eight_exactly, unfinished_exactly}
use Rattle.grammar.proofs.Last.{none_foreign, decided}
use Rattle.grammar.proofs.Verdict.{accepts, refuses, judges}
use Rattle.grammar.proofs.Cases.{worked}

-- src/lib.rt:5:1
pub returns : goal.returns
returns c = record {
  sound = sound;
  complete = complete;
  unique = unique;
  first = first_refused;
  short = too_short;
  exact = exact;
  profiled = profiled;
  accepted = accepted_exactly;
  six = six_exactly;
  seven = seven_exactly;
  eight = eight_exactly;
  unfinished = unfinished_exactly;
  foreign = none_foreign;
  decided = decided;
  accepts = accepts;
  refuses = refuses;
  judges = judges;
  worked = worked;
}
