-- The part up to the line's end, without its bars.
use Rattle.std.proofs.Common.{arith}
use Rattle.entries.specs.laws.Names.{line_ends, line_room, line_barred, line_plain}
use Rattle.entries.proofs.names.line_at.Goals as goal

pub overflow_add-end : goal.overflow_add-end
overflow_add-end c = omega (arith, (line_ends _ _ _ c.requires c.run_end-end.ensures).1)

pub slice_bounds-is_barred-end : goal.slice_bounds-is_barred-end
slice_bounds-is_barred-end c = (line_ends _ _ _ c.requires c.run_end-end.ensures).1

pub overflow_sub-result : goal.overflow_sub-result
overflow_sub-result c = omega (arith, line_room c.args.list.now c.args.at c.run_end-end.result c.min-next.result c.is_barred.result c.requires c.run_end-end.ensures (omega arith) c.is_barred.ensures c.if-is_barred.true)

pub returns-then-is_barred : goal.returns-then-is_barred
returns-then-is_barred c = line_barred _ _ _ _ _ c.requires c.run_end-end.ensures (omega arith) c.is_barred.ensures c.if-is_barred.true

pub returns : goal.returns
returns c = line_plain _ _ _ _ _ c.requires c.run_end-end.ensures (omega arith) c.is_barred.ensures c.if-is_barred.false
