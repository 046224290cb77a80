use Rattle.std.proofs.Common.{◌+◌, ◌-◌, ◌*◌}
use Rattle.reader.proofs.parsers.Parser.+annotation_list_type.Given as goal

abbrev pub decreases-annotation : goal.decreases-annotation
decreases-annotation l = 2 * (64 - l.depth.levels) + 1

abbrev pub decreases-list_type : goal.decreases-list_type
decreases-list_type l = 2 * (64 - l.depth.levels)
