use Rattle.ops.specs.Intents.{HasName, want_of}
use Rattle.engine.specs.Reference.{HasNames}
use Rattle.engine.proofs.Lending.{err_map}
use Rattle.engine.proofs.Waiting.{kept_names}
use Rattle.engine.proofs.running.Attempt.want.Goals as goal

pub returns-in-Frame-clause-ok : goal.returns-in-Frame-clause-ok
returns-in-Frame-clause-ok c = rw c.in-Frame.is c.own.ensures.ok

pub returns-in-Frame-clause-err : goal.returns-in-Frame-clause-err
returns-in-Frame-clause-err c = rw c.in-Frame.is (err_map c.own.result (HasName c.in-Frame.wanted) (HasNames (want_of c.in-Frame.wanted)) (kept_names c.in-Frame.wanted) c.own.ensures.err)

pub returns-in-Page-clause-ok : goal.returns-in-Page-clause-ok
returns-in-Page-clause-ok c = rw c.in-Page.is c.want.ensures
