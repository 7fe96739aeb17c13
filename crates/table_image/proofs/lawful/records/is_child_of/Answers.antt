use Rattle.std.proofs.Common.{ℕ, ◌≡◌, rules, sym, ap, ◌∙◌}
use Rattle.std.proofs.lemmas.Bool.{eqb-true, eq-eqb}
use Rattle.paths.specs.Prefixes.{Name}
use Rattle.tree.specs.declared.nodes.Key.{Key}
use Rattle.tree.specs.declared.nodes.Place.TheVariants.{Named}
use Rattle.table_image.specs.Parts.{IsChildOf}
use Rattle.table_image.proofs.lawful.records.is_child_of.Goals as goal

same_parent : (key : Key) (p : ℕ) (name : Name) → Named key ≡ Named (record { parent = p; name = name }) → key.parent ≡ p
same_parent key p name e =
    let other : Key = record { parent = p; name = name } in
    let same : key ≡ other = cc in
    ap (λ (k : Key). k.parent) same

pub returns-in-Named : goal.returns-in-Named
unfolding IsChildOf
returns-in-Named c =
    let key = c.in-Named.key in (
      λ yes.
          let same : key.parent ≡ c.args.parent = eqb-true key.parent c.args.parent yes in
          let name : Name = key.name in
          (name, c.in-Named.is ∙ ap (λ (p : ℕ). Named (record { parent = p; name = name })) same),
      λ h. eq-eqb key.parent c.args.parent (same_parent key c.args.parent h.0 (sym c.in-Named.is ∙ h.1)),
    )

pub returns-in_default : goal.returns-in_default
unfolding IsChildOf
returns-in_default c = (λ yes. absurd (search rules), λ h. absurd (c.in_default.not-Named (record { parent = c.args.parent; name = h.0 }) h.1))
