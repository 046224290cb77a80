use Rattle.lexis.proofs.Only.{only_tokens}
use Rattle.lexis.proofs.laws.tokens_alone.Goals as goal

pub returns : goal.returns
returns c = only_tokens
