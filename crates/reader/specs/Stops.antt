-- What the code's words for a refusal, and for a stop of reading, stand for.
use Rattle.grammar.specs.Verdict.{Verdict, incomplete, refused}
use Rattle.reader.specs.Reasons.{reason_number}
use Rattle.reader.specs.declared.answers.Refusal.{Refusal}
use Rattle.reader.specs.declared.refusals.Stop.{Stop}

abbrev pub refusal_verdict : Refusal → Verdict
refusal_verdict e = refused (reason_number e.reason) e.place

abbrev pub stop_of : Stop → Verdict
stop_of (Stop.Refused e) = refusal_verdict e
stop_of Stop.Unfinished = incomplete
