use Rattle.inventory.proofs.Counts.{counts_all}
use Rattle.inventory.proofs.Summary.of.Goals as goal

pub returns : goal.returns
returns c = counts_all c.args.rows.now c.loop-row.row-index c.loop-row.readable c.loop-row.damaged c.loop-row-test.false c.loop-row.invariant.1 c.loop-row.invariant.2
