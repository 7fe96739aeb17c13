-- Paths that end in a reserved name, and where changes of names move what is there.
use Rattle.std.proofs.Common.{◌&&◌, ◌≡◌, ◌⊎◌, Bool, true, false, not, List, [], ◌∷◌, ◌++◌, append-nil, append_assoc, if◌then◌else◌, drop, length, refl, sym, ap, ◌∙◌, subst, inl, inr}
use Rattle.std.proofs.lemmas.Bool.{and_parts, true≢false}
use Rattle.std.proofs.lemmas.List.{same_from_push}
use Rattle.paths.specs.Hidden.{is_reserved}
use Rattle.paths.specs.Prefixes.{Name, Names, is_prefix}
use Rattle.paths.proofs.PrefixLemmas.{drop-append, is_prefix-both, is_prefix-more, is_prefix-same}
use Rattle.tree.specs.Moves.{Where, at_path, cut, after_cut, after_move, after_exchange}
use Rattle.table_steps.specs.Steps.{after_follow}

-- the path ends in a name that the server keeps for itself
pub record IsReservedPath (path : Names) : Type 0 where
  pub above : Names
  pub name : Name
  pub whole : path ≡ above ++ name ∷ []
  pub reserved : is_reserved name ≡ true

-- the same, if there is a path
abbrev pub IsReservedPlace : Where → Type 0
IsReservedPlace (at_path path) = IsReservedPath path
IsReservedPlace cut = Unit {0}

-- what is at such a name is moved to one, or is cut
abbrev pub KeepsReserved : (Where → Where) → Type 0
KeepsReserved f = (path : Names) → IsReservedPath path → IsReservedPlace (f (at_path path))

-- ---- the last name of a path

pub unreserved_end : (path above : Names) (name : Name) → path ≡ above ++ name ∷ [] → is_reserved name ≡ false → IsReservedPath path → ⊥
unreserved_end path above name whole plain it =
    let same = same_from_push above it.above name it.name (sym whole ∙ it.whole) in
    true≢false (sym it.reserved ∙ (ap (λ (n : Name). is_reserved n) (sym same.1) ∙ plain))

split : (names : Names) → (names ≡ []) ⊎ ((front : Names) × (last : Name) × (names ≡ front ++ last ∷ []))
split [] = inl refl
split (name ∷ names) = elim (split names) [
  | inl none ↦ inr ([], name, ap (λ (k : Names). name ∷ k) none)
  | inr it ↦ inr (name ∷ it.0, it.1, ap (λ (k : Names). name ∷ k) it.2)
]

-- a path that extends p, with q in place of p
moved_end : (p q more r : Names) → r ≡ p ++ more → (IsReservedPath p → IsReservedPath q) → IsReservedPath r → IsReservedPath (q ++ more)
moved_end p q more r e ends it = elim (split more) [
  | inl none ↦
      let same : r ≡ p = e ∙ (ap (λ (k : Names). p ++ k) none ∙ append-nil p) in
      let behind : q ≡ q ++ more = sym (ap (λ (k : Names). q ++ k) none ∙ append-nil q) in
      subst (λ (k : Names). IsReservedPath k) behind (ends (subst (λ (k : Names). IsReservedPath k) same it))
  | inr on ↦
      let whole : it.above ++ it.name ∷ [] ≡ (p ++ on.0) ++ on.1 ∷ [] = sym it.whole ∙ (e ∙ (ap (λ (k : Names). p ++ k) on.2 ∙ sym (append_assoc p on.0 (on.1 ∷ [])))) in
      let same = same_from_push it.above (p ++ on.0) it.name on.1 whole in
      record {
        above = q ++ on.0;
        name = on.1;
        whole = ap (λ (k : Names). q ++ k) on.2 ∙ sym (append_assoc q on.0 (on.1 ∷ []));
        reserved = ap (λ (n : Name). is_reserved n) (sym same.1) ∙ it.reserved;
      }
]

moved_on : (p q r : Names) → is_prefix p r ≡ true → (IsReservedPath p → IsReservedPath q) → IsReservedPath r → IsReservedPath (q ++ drop (length p) r)
moved_on p q r hit ends it =
    let more = is_prefix-more p r hit in
    let rest : drop (length p) r ≡ more.0 = ap (λ (k : Names). drop (length p) k) more.1 ∙ drop-append p more.0 in
    subst (λ (k : Names). IsReservedPath (q ++ k)) (sym rest) (moved_end p q more.0 r more.1 ends it)

-- ---- changes of place

either : (b : Bool) (v w : Where) → (b ≡ true → IsReservedPlace v) → (b ≡ false → IsReservedPlace w) → IsReservedPlace (if b then v else w)
either true v w one other = one refl
either false v w one other = other refl

pub cut_reserved : (p : Names) → KeepsReserved (after_cut p)
cut_reserved p r it = either (is_prefix p r) cut (at_path r) (λ e. tt) (λ e. it)

-- the new path is reserved, or the old one is not
pub move_reserved : (p q : Names) → (IsReservedPath p → IsReservedPath q) → KeepsReserved (after_move p q)
move_reserved p q ends r it =
    let on : Where = at_path (q ++ drop (length p) r) in
    let low : Where = (if is_prefix p r then on else at_path r) in
    either (is_prefix p q && is_prefix q p) (at_path r) (if is_prefix q r then cut else low) (λ e. it) (λ e.
    either (is_prefix q r) cut low (λ e. tt) (λ e.
    either (is_prefix p r) on (at_path r) (λ hit. moved_on p q r hit ends it) (λ e. it)))

pub exchange_reserved : (p q : Names) → (IsReservedPath p → IsReservedPath q) → (IsReservedPath q → IsReservedPath p) → KeepsReserved (after_exchange p q)
exchange_reserved p q ends back r it =
    let on : Where = at_path (q ++ drop (length p) r) in
    let to : Where = at_path (p ++ drop (length q) r) in
    either (is_prefix p r) on (if is_prefix q r then to else at_path r) (λ hit. moved_on p q r hit ends it) (λ e.
    either (is_prefix q r) to (at_path r) (λ hit. moved_on q p r hit back it) (λ e. it))

pub follow_reserved : (c p q : Names) → (IsReservedPath p → IsReservedPath q) → KeepsReserved (after_follow c p q)
follow_reserved c p q ends r it =
    either (is_prefix c p && not (is_prefix p c)) (after_cut q (at_path r)) (after_move p q (at_path r)) (λ e. cut_reserved q r it) (λ e. move_reserved p q ends r it)

pub follow_cut : (c p q : Names) → after_follow c p q cut ≡ cut
follow_cut c p q = same (is_prefix c p && not (is_prefix p c))
  where
    same : (b : Bool) → (if b then cut else cut) ≡ cut
    same true = refl
    same false = refl

-- what was at the source of a move is at its target, or nowhere
pub source_reserved : (p q : Names) → IsReservedPath q → IsReservedPlace (after_move p q (at_path p))
source_reserved p q it =
    let rest : q ++ drop (length p) p ≡ q = ap (λ (k : Names). q ++ k) (ap (λ (k : Names). drop (length p) k) (sym (append-nil p)) ∙ drop-append p []) ∙ append-nil q in
    let on : Where = at_path (q ++ drop (length p) p) in
    let low : Where = (if is_prefix p p then on else at_path p) in
    either (is_prefix p q && is_prefix q p) (at_path p) (if is_prefix q p then cut else low)
    (λ both. let parts = and_parts (is_prefix p q) (is_prefix q p) both in subst (λ (k : Names). IsReservedPath k) (sym (is_prefix-both p q parts.0 parts.1)) it)
    (λ e. either (is_prefix q p) cut low (λ e. tt) (λ e.
    either (is_prefix p p) on (at_path p) (λ e. subst (λ (k : Names). IsReservedPath k) (sym rest) it) (λ miss. absurd (true≢false (sym (is_prefix-same p) ∙ miss)))))
