use Rattle.std.proofs.Common.{arith, rules, mul_comm}
use Rattle.std.proofs.Math.Nat.{div-le_of_le-mul}
use Rattle.std.proofs.lemmas.Grind.{common_steps}
use Rattle.sources.specs.Held.{records_bytes}
use Rattle.sources.proofs.Record.{cast_at}
use Rattle.sources.proofs.pod.Records.get.Goals as goal

pub returns-in_err-get : goal.returns-in_err-get
returns-in_err-get g c = grind (arith, common_steps, div-le_of_le-mul, mul_comm)

pub returns : goal.returns
returns g c =
    cast_at g.T.Pod.stored c.cast.result (records_bytes c.args.self.now) c.in_ok-get.field-0.now g.T.Pod.width c.args.index c.in_ok-start.start g.met.T.Pod.some
    (grind arith) (search rules) (grind (arith, common_steps)) c.cast.ensures
