use Rattle.std.proofs.Common.{[], ◌∷◌, refl}
use Rattle.handles.specs.Calls.{Retire}
use Rattle.engine.proofs.concluding.give_up.Goals as goal

pub returns-then-taken : goal.returns-then-taken
returns-then-taken g c = rw c.if-taken.true (record { folders = []; chain = refl; so = refl })

pub returns-in-Some : goal.returns-in-Some
returns-in-Some g c = rw (c.if-taken.false, c.in-Some.is) (record {
  folders = Retire c.in-Some.fh c.retire.result ∷ [];
  chain = (c.retire.new.self, c.retire.ensures, refl);
  so = (c.retire.result, refl);
})

pub returns-in-None : goal.returns-in-None
returns-in-None g c = rw (c.if-taken.false, c.in-None.is) (record { folders = []; chain = refl; so = refl })
