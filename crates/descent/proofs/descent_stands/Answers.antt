use Rattle.descent.proofs.descent_stands.Goals as goal
use Rattle.descent.proofs.Expressions.{expr_tells, after_tells, items_tells, bracketed_tells}
use Rattle.descent.proofs.Statements.{chain_tells, returned_tells, command_stands, stmt_stands, branch_tells, ways_tells, lines_tells, suite_tells}
use Rattle.descent.proofs.Declarations.{ann_tells, parameters_tells, variable_tells, headline_tells, lead_stands, func_body_tells, func_tells, class_body_tells, class_tells, program_tells}
use Rattle.descent.proofs.Enough.{descends_whole, enough}

-- src/lib.rt
pub returns : goal.returns
returns c =
    record {
      exprs = expr_tells;
      grown = after_tells;
      items = items_tells;
      lists = bracketed_tells;
      types = ann_tells;
      params = parameters_tells;
      definitions = variable_tells;
      bodies = func_body_tells;
      functions = func_tells;
      members = class_body_tells;
      classes = class_tells;
      assignments = chain_tells;
      commands = command_stands;
      results = returned_tells;
      headlines = headline_tells;
      leads = lead_stands;
      statements = stmt_stands;
      arms = branch_tells;
      more = ways_tells;
      lines = lines_tells;
      blocks = suite_tells;
      programs = program_tells;
      whole = descends_whole;
      enough = enough;
    }
