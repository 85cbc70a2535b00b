use Rattle.endian.specs.Chosen.{is_big}
use Rattle.elf.specs.Opened.{stated}
use Rattle.inventory.proofs.Taking.{takes}
use Rattle.inventory.proofs.list.Goals as goal

pub returns : goal.returns
returns g c =
    takes (stated c.args.bytes.now g.C.Class.column is_big c.args.table) _ c.in_ok-open.ensures.result c.rows.result c.rows.ensures
