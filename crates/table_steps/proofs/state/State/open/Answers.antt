use Rattle.std.proofs.Common.{ℕ, Bool, false, refl, rules, sym, subst}
use Rattle.table_steps.specs.Upheld.{IsUpheld}
use Rattle.table_requests.specs.Listed.{requests_of}
use Rattle.tree.specs.Places.{at_in}
use Rattle.table_steps.proofs.Filing.{none_kept}
use Rattle.table_steps.proofs.RootAlone.{none_held, root_lawful}
use Rattle.table_steps.proofs.state.State.open.Goals as goal

pub returns-clause-opened : goal.returns-clause-opened
returns-clause-opened c = rw (c.in_ok-tree.ensures.nodes, c.in_ok-ledger.ensures.made, c.new-2.ensures.at, c.new-3.ensures.at, c.new-3.ensures.last) refl

pub returns-clause-kept : goal.returns-clause-kept
returns-clause-kept c =
    let plain : IsUpheld (at_in c.in_ok-tree.tree) c.in_ok-ledger.ledger.made (λ _. false) = root_lawful (at_in c.in_ok-tree.tree) c.in_ok-ledger.ledger.made c.in_ok-tree.ensures.nodes c.in_ok-tree.ensures.tree c.in_ok-ledger.ensures.made in
    record {
      law = subst (λ (kept : ℕ → Bool). IsUpheld (at_in c.in_ok-tree.tree) c.in_ok-ledger.ledger.made kept) (sym (none_kept c.new-2.result c.new-3.result c.new-2.ensures.pinned c.new-3.ensures.law c.new-3.ensures.at)) plain;
      flying = search rules;
      held = none_held (at_in c.in_ok-tree.tree) (requests_of c.new-2.result) c.new-2.ensures.at;
      ready = search rules;
      provided = search rules;
      few = search rules;
      reserved = search rules;
      limited = search rules;
      counts = search rules;
      filed = c.new-3.ensures.law;
      files = search rules;
    }
