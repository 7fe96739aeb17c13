-- What an exchange of two names does to a tree.
use Rattle.std.proofs.Common.{ℤ, ◌≡◌, ◌≢◌, true, [], ◌∷◌, ◌++◌, refl, sym, ap, ◌∙◌, ◌⊎◌, inl, inr}
use Rattle.std.proofs.lemmas.Bool.{cases_Bool, cases_eq, true≢false}
use Rattle.paths.specs.Prefixes.{Names, is_prefix}
use Rattle.paths.proofs.PrefixLemmas.{is_prefix-both, is_prefix-same}
use Rattle.tree.specs.declared.nodes.Key.{Key}
use Rattle.tree.specs.Places.{Lookup, Leads}
use Rattle.tree.specs.Moves.{CanExchange, Exchanges}
use Rattle.tree.proofs.Climbing.{named_same, path_of_lead}
use Rattle.table_footprints.specs.Asked.{IsProperPrefix, IsRefusedBetween, IsRefusedExchange}
use Rattle.table_steps.specs.Ending.{KeepsChildren, name_at}
use Rattle.table_steps.specs.Steps as steps

-- a prefix that is not a proper one is the whole path
whole_prefix : (p q : Names) → (IsProperPrefix p q → ⊥) → is_prefix p q ≡ true → p ≡ q
whole_prefix p q proper prefix = elim (cases_Bool (is_prefix q p)) [
  | inl back ↦ is_prefix-both p q prefix back
  | inr none ↦
      let other : p ≢ q = λ e. true≢false (sym (is_prefix-same q) ∙ (ap (is_prefix q) (sym e) ∙ none)) in
      absurd (proper (record { begins = prefix; other = other }))
]

pub may_exchange : (at : Lookup) (source target : Key) → Leads at source.parent → Leads at target.parent → ((e : ℤ) → IsRefusedBetween at (name_at source) (name_at target) e → ⊥) → CanExchange at source.parent source.name target.parent target.name
may_exchange at source target leads new_leads may =
    let up = path_of_lead at source.parent leads in
    let new_up = path_of_lead at target.parent new_leads in
    let p = up.0 ++ source.name ∷ [] in
    let q = new_up.0 ++ target.name ∷ [] in
    let none : (e : ℤ) → IsRefusedExchange p q e → ⊥ = λ e refused. may e (record {
      path = p;
      leads = record { above = up.0; leads = up.1; whole = refl };
      new_path = q;
      new_leads = record { above = new_up.0; leads = new_up.1; whole = refl };
      refused = refused;
    }) in
    record {
      above = up.0;
      leads = up.1;
      new_above = new_up.0;
      new_leads = new_up.1;
      apart = record {
        not_above = whole_prefix p q (λ proper. none _ (refl, inl proper));
        not_below = λ prefix. sym (whole_prefix q p (λ proper. none _ (refl, inr proper)) prefix);
      };
    }

module _ (old new : Lookup) (source target : Key) (exchanges : Exchanges old new source.parent source.name target.parent target.name) where
  pub exchanges_names : steps.Exchanges old (name_at source) (name_at target) new
  exchanges_names = record {
    path = exchanges.above ++ source.name ∷ [];
    leads = record { above = exchanges.above; leads = exchanges.leads; whole = refl };
    new_path = exchanges.new_above ++ target.name ∷ [];
    new_leads = record { above = exchanges.new_above; leads = exchanges.new_leads; whole = refl };
    changes = exchanges.changes;
  }

  -- a node with a child still has it, or was the parent of one of the two names
  pub exchange_children : KeepsChildren old (λ n. (n ≡ source.parent) ⊎ (n ≡ target.parent)) new
  exchange_children = record {
    child = λ n child. elim (cases_eq n source.parent) [
      | inl e ↦ inr (inr (inl e))
      | inr ne ↦ elim (cases_eq n target.parent) [
        | inl e ↦ inr (inr (inr e))
        | inr ne' ↦
            let same = exchanges.others child.0 (λ named. ne (named_same old child.0 n source.parent child.1 source.name child.2 named).0) (λ named. ne' (named_same old child.0 n target.parent child.1 target.name child.2 named).0) in
            inl (child.0, child.1, (child.2.0, same ∙ child.2.1, child.2.2))
      ]
    ];
  }
