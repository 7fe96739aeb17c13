use Rattle.std.proofs.Common.{ℕ, [], ◌∷◌, Option, Some, refl, sym, ap, ◌∙◌, subst}
use Rattle.table_steps.specs.Answers.{Answer, Settlement}
use Rattle.table_steps.specs.World.{opened_world}
use Rattle.table_shared.specs.Runs.{settled}
use Rattle.engine.specs.Folders.{GivesUp}
use Rattle.engine.proofs.Endings.{none_given_up}
use Rattle.engine_queues.specs.declared.left.Left.{Left}
use Rattle.engine_turns.specs.TableCalls.{on_table_of, settlement_of}
use Rattle.engine_turns.proofs.Stepping.{made}
use Rattle.engine_turns.specs.Turns.{IsEnded, ending}
use Rattle.engine_turns.proofs.Answering.{none_more}
use Rattle.engine_turns.proofs.settling.settle_left.Goals as goal

pub returns-in_default-clause-ends : goal.returns-in_default-clause-ends
returns-in_default-clause-ends g c = record {
  folders = [];
  chain = refl;
  calls = [];
  on_table = none_more (on_table_of c.args.thread_log.now);
  so = subst (λ (o : Option Left). IsEnded o c.args.taken (ending _ [] [])) (sym c.in_default.is) (record { settled_is = refl; gives_up = none_given_up c.args.taken; settles = refl });
}

pub returns-clause-ends : goal.returns-clause-ends
returns-clause-ends g c =
    let start = opened_world g.O.Opening.limits in
    let parts = c.into_parts-answered in
    let s = c.settle-settled in
    let up = c.give_up.ensures in
    let call = settled parts.result.0 c.args.taken s.result in
    record {
      folders = up.folders;
      chain = up.chain;
      calls = call ∷ [];
      on_table = made start call c.args.thread_log.now s.new.me s.ensures.makes;
      so = subst (λ (o : Option Left). IsEnded o c.args.taken (ending (Some s.result) up.folders (call ∷ []))) (sym c.in-Some.is) (record {
        settled_is = ap Some (s.ensures.settled ∙ ap (λ (a : Answer). settlement_of a c.args.taken) parts.ensures.0);
        gives_up = subst (λ (p : Option ℕ). GivesUp c.args.taken p up.folders) parts.ensures.1 up.so;
        settles = ap (λ (t : Settlement). settled parts.result.0 c.args.taken t ∷ []) s.ensures.settled ∙ ap (λ (a : Answer). settled a c.args.taken (settlement_of a c.args.taken) ∷ []) parts.ensures.0;
      });
    }
