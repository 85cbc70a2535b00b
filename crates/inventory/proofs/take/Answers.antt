use Rattle.inventory.proofs.take.Goals as goal

pub returns-in-Class32 : goal.returns-in-Class32
returns-in-Class32 c = rw c.in-Class32.is c.list.ensures

pub returns-in-Class64 : goal.returns-in-Class64
returns-in-Class64 c = rw c.in-Class64.is c.list-in-Class64.ensures
