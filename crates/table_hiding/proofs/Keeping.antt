-- The steps of a table keep marked nodes at reserved names, as do the ends of periods before them.
use Rattle.std.proofs.Common.{ℕ, ◌≡◌, ◌⊎◌, Bool, true, List, [], ◌∷◌, ◌++◌, Some, None, reverse, refl, sym, ap, ◌∙◌, subst, inl, inr}
use Rattle.std.proofs.lemmas.Bool.{cases_eq, true≢false}
use Rattle.std.proofs.lemmas.List.{reverse-reverse}
use Rattle.std.proofs.lemmas.Option.{none-some, same_Some}
use Rattle.paths.specs.Hidden.{is_reserved}
use Rattle.paths.specs.Prefixes.{Name, Names}
use Rattle.tree.specs.declared.nodes.Key.{Key}
use Rattle.tree.specs.declared.nodes.Node.{Node}
use Rattle.tree.specs.declared.nodes.Place.TheVariants.{Named, Cut}
use Rattle.tree.specs.Places.{Lookup, no_nodes, root_node, Climbs, IsCut, IsNamed, IsPathOf, IsRooted, Reaches}
use Rattle.tree.proofs.LookupLemmas.{with_other, with_same}
use Rattle.tree.proofs.Climbing.{cut_unnamed, named_same, parent_at, path_under, root_unnamed}
use Rattle.table_requests.specs.declared.data.Want.{Want}
use Rattle.table.specs.Leftovers.{AreLeftovers, IsHidden}
use Rattle.table.specs.Renewing.{BeginsAnew, FinishesAnew, ForgetsAnew, SettlesAnew}
use Rattle.table.proofs.Closing.{renewed_is}
use Rattle.table_steps.specs.Answers.{Answer, Settlement}
use Rattle.table_steps.specs.declared.data.Begin.{Begin}
use Rattle.table_steps.specs.declared.data.Begin.TheVariants.{Go, Busy, Refused}
use Rattle.terms.specs.declared.limits.Limits.{Limits}
use Rattle.table_steps.specs.declared.data.Outcome.{Outcome}
use Rattle.table_steps.specs.World.{IsLawfulWorld, World, opened_world}
use Rattle.table_hiding.specs.Hiding.{ArePathsOfMarked, IsBegunUnreserved, IsUnreserved, KeepsHidden}
use Rattle.table_hiding.proofs.Marked.{HasReservedPath}
use Rattle.table_hiding.proofs.Stepping.{IsSafe, begins_safe, finishes_safe, forgets_safe, safe_as, settles_safe}

-- ---- in a lawful world

path_of_name : (at : Lookup) (n : ℕ) (key : Key) (way : Names) → IsRooted at → IsNamed at n key.parent key.name → is_reserved key.name ≡ true → Reaches at 1 n way → HasReservedPath at n
path_of_name at n key [] rooted named reserved h = absurd (root_unnamed at rooted key.parent key.name (subst (λ k. IsNamed at k key.parent key.name) h named))
path_of_name at n key (name ∷ up) rooted named reserved (p, there, rest) =
    let same = named_same at n key.parent p key.name name named there in
    record {
      path = reverse up ++ name ∷ [];
      leads = path_under at n p (reverse up) name there (subst (λ (r : Names). Climbs at p r) (sym (reverse-reverse up)) rest);
      ends = record { above = reverse up; name = name; whole = refl; reserved = ap (λ (k : Name). is_reserved k) (sym same.1) ∙ reserved };
    }

safe_from : (w : World) → IsLawfulWorld w → KeepsHidden w → IsSafe w
safe_from w lawful keeps = record {
  marked = λ n x here mark.
      let it = keeps.marks n x here mark in
      let named : IsNamed w.at n it.key.parent it.key.name = (x, here, it.named) in
      let lead = lawful.law.tree.reached n it.key.parent it.key.name named in
      inr (path_of_name w.at n it.key lead.names lawful.law.tree.rooted named it.reserved lead.climb);
  works = λ id f work it.
      let ready = lawful.ready id f work it in
      record { case = ready.case; footprint = ready.footprint; unreserved = keeps.unreserved id f work it };
}

hidden_here : (at : Lookup) (n : ℕ) (x : Node) (key : Key) → at n ≡ Some x → x.hidden ≡ true → x.place ≡ Named key → IsCut at n ⊎ HasReservedPath at n → IsHidden x
hidden_here at n x key here mark named (inl lost) = absurd (cut_unnamed at n lost.0 lost.1 lost.2 key.parent key.name (x, here, named))
hidden_here at n x key here mark named (inr it) =
    let over = parent_at at n it.ends.above it.ends.name (subst (λ (r : Names). IsPathOf at n r) it.ends.whole it.leads) in
    let same = named_same at n key.parent over.0 key.name it.ends.name (x, here, named) over.1 in
    record { mark = mark; key = key; named = named; reserved = ap (λ (k : Name). is_reserved k) same.1 ∙ it.ends.reserved }

from_safe : (w : World) → IsLawfulWorld w → IsSafe w → KeepsHidden w
from_safe w lawful safe = record {
  marks = λ n x here mark.
      let place = lawful.law.booked.marks n x here mark in
      hidden_here w.at n x place.0 here mark place.1 (safe.marked n x here mark);
  unreserved = λ id f work it. (safe.works id f work it).unreserved;
}

renewed_safe : (old new : World) → new ≡ record old { postings = new.postings } → IsSafe old → IsSafe new
renewed_safe old new rest safe = safe_as old new (ap (λ (w : World). w.at) rest) (ap (λ (w : World). w.flights) rest) safe

-- ---- the steps

module _ (old new : World) (lawful : IsLawfulWorld old) (lawful' : IsLawfulWorld new) (keeps : KeepsHidden old) where
  pub begins_keep : (unique : ℕ) (want : Want) (told : Begin) → IsBegunUnreserved want told → BeginsAnew old unique want told new → KeepsHidden new
  begins_keep unique want told plain it =
      from_safe new lawful' (begins_safe it.renewed new unique want told it.begins plain (renewed_safe old it.renewed (renewed_is old it.renewed it.renews) (safe_from old lawful keeps)))

  pub finishes_keep : (id : ℕ) (outcome : Outcome) (answer : Answer) → FinishesAnew old id outcome answer new → KeepsHidden new
  finishes_keep id outcome answer it =
      from_safe new lawful' (finishes_safe it.renewed new id outcome answer it.finishes (renewed_safe old it.renewed (renewed_is old it.renewed it.room) (safe_from old lawful keeps)))

  pub settles_keep : (answer : Answer) (taken : Bool) (settled : Settlement) → SettlesAnew old answer taken settled new → KeepsHidden new
  settles_keep answer taken settled it =
      from_safe new lawful' (settles_safe it.renewed new answer taken settled it.settles (renewed_safe old it.renewed (renewed_is old it.renewed it.room) (safe_from old lawful keeps)))

  pub forgets_keep : (number n amount : ℕ) → ForgetsAnew old number n amount new → KeepsHidden new
  forgets_keep number n amount it =
      from_safe new lawful' (forgets_safe it.renewed new number n amount it.forgets (renewed_safe old it.renewed (renewed_is old it.renewed it.room) (safe_from old lawful keeps)))

-- ---- a table that was opened, and what is left at its end

pub begun_unreserved : (want : Want) (told : Begin) → IsUnreserved want → IsBegunUnreserved want told
begun_unreserved want (Go ticket) plain = plain
begun_unreserved want Busy plain = tt
begun_unreserved want (Refused errno) plain = tt

pub opened_keeps : (limits : Limits) → KeepsHidden (opened_world limits)
opened_keeps limits = record {
  marks = λ n x here mark. elim (cases_eq 1 n) [
    | inl e ↦
        let same : root_node ≡ x = same_Some root_node x (sym (with_same no_nodes 1 root_node) ∙ subst (λ k. (opened_world limits).at k ≡ Some x) (sym e) here) in
        absurd (true≢false (sym mark ∙ ap (λ (w : Node). w.hidden) (sym same)))
    | inr ne ↦ absurd (none-some x (sym (with_other no_nodes 1 root_node n ne) ∙ here))
  ];
  unreserved = λ id f work it. absurd (none-some f it.here);
}

-- the leftover files are all that have a mark
pub left_marked : (w : World) (paths : List Names) → KeepsHidden w → AreLeftovers w.at paths → ArePathsOfMarked w.at paths
left_marked w paths keeps left = record {
  numbers = left.numbers;
  rising = left.rising;
  marked = λ n. (
    λ among. let it = (left.marked n).0 among in record { node = it.node; here = it.here; mark = it.hidden.mark },
    λ it. (left.marked n).1 (record { node = it.node; here = it.here; hidden = keeps.marks n it.node it.here it.mark }),
  );
  leads = left.leads;
}
