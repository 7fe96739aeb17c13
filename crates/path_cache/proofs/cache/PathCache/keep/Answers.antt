use Rattle.std.proofs.Common.{refl, ap, ◌∙◌, arith}
use Rattle.std.specs.Option.{option_map}
use Rattle.path_cache.specs.Places.{number_of}
use Rattle.path_cache.specs.Walks.{Kept}
use Rattle.path_cache.specs.Entries.{found}
use Rattle.path_cache.proofs.Keeping.{keeps_kept, keeps_placed, keeps_at, keeps_numbered, put_at}
use Rattle.path_cache.proofs.Caching.{child_looked}
use Rattle.path_cache.proofs.cache.PathCache.keep.Goals as goal

pub invariant_of-self-2 : goal.invariant_of-self-2
invariant_of-self-2 g c =
    let entry : Kept g.row.V.Denot = record { number = c.self.inside.next; value = c.args.value } in (
      keeps_numbered (found c.self.inside.entries.entries) (found c.put_in.new.entries.entries) c.self.inside.next c.self.invariant.0 c.number-parent.result c.args.name.now entry refl (omega (arith, c.if-parent-number.false)) (c.if-not-put_in.ensures.put refl),
      c.put_in.ensures.cap ∙ c.self.invariant.1,
      omega (arith, c.put_in.ensures.len, c.len.ensures.len, c.if-len-self.false),
    )

pub returns-clause-some : goal.returns-clause-some
returns-clause-some g c up =
    let entry : Kept g.row.V.Denot = record { number = c.self.inside.next; value = c.args.value } in
    let finds = put_at c.self.inside.entries.entries c.put_in.new.entries.entries c.args.name.now entry c.number-parent.result (number_of c.args.place) c.number-parent.ensures (c.if-not-put_in.ensures.put refl) in
    rw (← c.self.view_is) (λ is. keeps_at _ _ c.self.invariant.0 refl c.args.place up is c.args.name.now entry refl finds c.args.name refl c.number-parent.result c.number-parent.ensures)

pub returns-clause-kept : goal.returns-clause-kept
returns-clause-kept g c up =
    let entry : Kept g.row.V.Denot = record { number = c.self.inside.next; value = c.args.value } in
    let finds = put_at c.self.inside.entries.entries c.put_in.new.entries.entries c.args.name.now entry c.number-parent.result (number_of c.args.place) c.number-parent.ensures (c.if-not-put_in.ensures.put refl) in
    rw (← c.self.view_is) (λ is. keeps_kept _ _ c.self.invariant.0 refl c.args.place up is c.args.name.now entry refl finds)

pub returns-clause-places : goal.returns-clause-places
returns-clause-places g c up =
    let entry : Kept g.row.V.Denot = record { number = c.self.inside.next; value = c.args.value } in
    let finds = put_at c.self.inside.entries.entries c.put_in.new.entries.entries c.args.name.now entry c.number-parent.result (number_of c.args.place) c.number-parent.ensures (c.if-not-put_in.ensures.put refl) in
    rw (← c.self.view_is) (λ is. keeps_placed _ _ c.self.invariant.0 refl c.args.place up is c.args.name.now entry refl finds)

pub returns-clause-looked : goal.returns-clause-looked
returns-clause-looked g c = child_looked _ _ _ _ ∙ ap (option_map (λ e. e.looked)) (c.if-not-put_in.ensures.there refl)
