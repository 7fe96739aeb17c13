-- The tests of a name, and what they mean.
use Rattle.std.proofs.Common.{◌≡◌, ◌≢◌, ℕ, Bool, true, false, cond, eqb, ltb, ◌||◌, List, [], ◌∷◌, length, get_or, All, Result, Ok, Err, refl, arith, ◌⊎◌, inl, inr}
use Rattle.std.specs.Prelude.{MatchResult, codes}
use Rattle.std.specs.Str.{IsUtf8, is_utf8, bytes_eq}
use Rattle.std.specs.List.{AllByRecursion, list_any}
use Rattle.std.proofs.lemmas.Bool.{false_from_ne_true, cond_both, eq-eqb, or_parts, or_cases, eqb-true, eqb-false, ltb-true, ltb-false}
use Rattle.std.proofs.lemmas.List.{get_or_default}
use Rattle.std.proofs.lemmas.List.Folds.{list_any_none, list_any-from_Any}
use Rattle.std.proofs.lemmas.Result.{MatchResult-weaker}
use Rattle.std.proofs.lemmas.Slice.Eq.{bytes_eq-Decides}
use Rattle.std.proofs.lemmas.Str.{IsUtf8-from_is_utf8, is_utf8-from_IsUtf8}
use Rattle.terms.specs.declared.settings.Names.{Names}
use Rattle.terms.specs.declared.settings.Names.TheVariants as names_of
use Rattle.wire.specs.declared.fault.WireFault.{WireFault}
use Rattle.wire.specs.declared.fault.WireFault.TheVariants.{Opcode, Body, NameLong, NameBad, Frame}
use Rattle.wire.specs.Fields.{Value, num, name, bytes}
use Rattle.terms.specs.Names.{IsSpelled}
use Rattle.wire.specs.Requests.{IsName, names_in}
use Rattle.wire.specs.Faults.{IsNameFault, IsFirstNameFault}
use Rattle.wire.specs.Reading.{◌>>=◌, spelled_at, name_at, named}

pub is_utf8-false : (t : List ℕ) → ¬ (IsUtf8 t) → is_utf8 t ≡ false
is_utf8-false t refused = false_from_ne_true (is_utf8 t) (λ e. refused (IsUtf8-from_is_utf8 t e))

abbrev is_slash : ℕ → Bool
is_slash b = eqb b 47

-- the result of a test before a step
pub bind_both : {A B : Type 0} (b : Bool) (x : A) (d : WireFault) (f : A → Result B WireFault) (P : Result B WireFault → Type 0) → (b ≡ true → P (f x)) → (b ≡ false → P (Err d)) → P (cond b (Ok x) (Err d) >>= f)
bind_both true x d f P h k = h refl
bind_both false x d f P h k = k refl

slashed : (names : Names) (t : List ℕ) → list_any is_slash t ≡ true → IsName names t → ⊥
slashed names t e n =
    let none : list_any is_slash t ≡ false = list_any_none is_slash t (λ k d lt. false_from_ne_true (is_slash (get_or t k d)) (λ h. n.no_slash k d lt (eqb-true _ _ h))) in
    absurd cc

slash_free : (t : List ℕ) → list_any is_slash t ≡ false → All (λ b. b ≢ 47) t
slash_free t e k d lt same =
    let passes : is_slash (get_or t k d) ≡ true = eq-eqb _ _ same in
    let one = list_any-from_Any is_slash t (k, get_or t k d, lt, get_or_default t k (get_or t k d) d lt, passes) in
    absurd cc

abbrev NameLaw : Names → List ℕ → Result (List ℕ) WireFault → Type 0
NameLaw names t r = MatchResult r (λ _. IsName names t) (λ d. IsNameFault names t d)

-- the test of its spelling before a step
spelled_both : {B : Type 0} (names : Names) (t : List ℕ) (f : List ℕ → Result B WireFault) (P : Result B WireFault → Type 0)
    → (IsSpelled names t → P (f t)) → ((IsSpelled names t → ⊥) → P (Err NameBad)) → P (spelled_at names t >>= f)
spelled_both names_of.Text t f P h k =
    bind_both (is_utf8 t) t NameBad f P (λ utf8. h (IsUtf8-from_is_utf8 t utf8)) (λ other. k (λ spelled. let one = is_utf8-from_IsUtf8 t spelled in absurd cc))
spelled_both names_of.Bytes t f P h k = h tt

pub spelled_well : (names : Names) (t : List ℕ) → IsSpelled names t → spelled_at names t ≡ Ok t
spelled_well names_of.Text t spelled = rw (is_utf8-from_IsUtf8 t spelled) refl
spelled_well names_of.Bytes t spelled = refl

pub spelled_badly : (names : Names) (t : List ℕ) → (IsSpelled names t → ⊥) → spelled_at names t ≡ Err NameBad
spelled_badly names_of.Text t other = rw (is_utf8-false t other) refl
spelled_badly names_of.Bytes t other = absurd (other tt)

pub name_law : (names : Names) (t : List ℕ) → NameLaw names t (name_at names t)
name_law names t =
    let dot = bytes_eq t (codes ".") in
    let dots = bytes_eq t (codes "..") in
    let slash = list_any is_slash t in
    let named_if = λ (u : List ℕ). cond (bytes_eq u (codes ".") || bytes_eq u (codes "..") || list_any is_slash u) (Err NameBad) (Ok u) in
    cond_both (eqb (length t) 0) (Err NameBad) (cond (ltb 255 (length t)) (Err NameLong) (spelled_at names t >>= named_if)) (NameLaw names t)
    (λ none. let z : length t ≡ 0 = eqb-true _ _ none in (omega arith, λ n. absurd (omega (arith, n.some))))
    (λ some. cond_both (ltb 255 (length t)) (Err NameLong) (spelled_at names t >>= named_if) (NameLaw names t)
    (λ long. ltb-true _ _ long)
    (λ short. spelled_both names t named_if (NameLaw names t)
    (λ spelled. cond_both (dot || dots || slash) (Err NameBad) (Ok t) (NameLaw names t)
    (λ bad. (
      ltb-false _ _ short,
      λ n. elim (or_cases (dot || dots) slash bad) [
        | inl e ↦ elim (or_cases dot dots e) [ inl here ↦ n.not_here ((bytes_eq-Decides t (codes ".")).0 here) | inr above ↦ n.not_above ((bytes_eq-Decides t (codes "..")).0 above) ]
        | inr e ↦ slashed names t e n
      ],
    ))
    (λ good.
    let parts = or_parts (dot || dots) slash good in
    let dotted = or_parts dot dots parts.0 in
    record {
      some = (let ne : length t ≢ 0 = eqb-false _ _ some in omega arith);
      short = ltb-false _ _ short;
      spelled = spelled;
      not_here = λ h. let one = (bytes_eq-Decides t (codes ".")).1 h in absurd cc;
      not_above = λ h. let one = (bytes_eq-Decides t (codes "..")).1 h in absurd cc;
      no_slash = slash_free t parts.1;
    }))
    (λ other. (ltb-false _ _ short, λ n. other n.spelled))))

abbrev NamedLaw : Names → List Value → Result Bool WireFault → Type 0
NamedLaw names values r = MatchResult r (λ _. AllByRecursion (IsName names) (names_in values)) (λ d. IsFirstNameFault names (names_in values) d)

pub named_law : (names : Names) (values : List Value) → NamedLaw names values (named names values)
named_law names [] = tt
named_law names (num n ∷ values) = named_law names values
named_law names (bytes d ∷ values) = named_law names values
named_law names (name t ∷ values) =
    elim (name_at names t) as (λ r. NameLaw names t r → NamedLaw names (name t ∷ values) (r >>= λ _. named names values)) [
      | Ok u ↦ λ lawful. MatchResult-weaker (named names values) (named_law names values) (λ _ all. (lawful, all)) (λ d first. inr (lawful, first))
      | Err d ↦ λ fault. inl fault
    ] (name_law names t)

no_name_fault : (names : Names) (t : List ℕ) (d : WireFault) → IsName names t → IsNameFault names t d → ⊥
no_name_fault names t NameLong n f = absurd (omega (arith, n.short, f))
no_name_fault names t NameBad n f = f.1 n
no_name_fault names t Opcode n f = f
no_name_fault names t Body n f = f
no_name_fault names t Frame n f = f

-- if all names are lawful, there is no first name fault
pub no_first_fault : (names : Names) (ts : List (List ℕ)) (d : WireFault) → AllByRecursion (IsName names) ts → IsFirstNameFault names ts d → ⊥
no_first_fault names [] d all f = f
no_first_fault names (t ∷ ts) d all f = elim f [ inl one ↦ no_name_fault names t d all.0 one | inr rest ↦ no_first_fault names ts d all.1 rest.1 ]

-- a name fault is one of the two
pub name_faults : (names : Names) (ts : List (List ℕ)) (d : WireFault) → IsFirstNameFault names ts d → (d ≡ NameLong) ⊎ (d ≡ NameBad)
name_faults names [] d f = absurd f
name_faults names (t ∷ ts) NameLong f = inl refl
name_faults names (t ∷ ts) NameBad f = inr refl
name_faults names (t ∷ ts) Opcode f = elim f [ inl one ↦ absurd one | inr rest ↦ name_faults names ts Opcode rest.1 ]
name_faults names (t ∷ ts) Body f = elim f [ inl one ↦ absurd one | inr rest ↦ name_faults names ts Body rest.1 ]
name_faults names (t ∷ ts) Frame f = elim f [ inl one ↦ absurd one | inr rest ↦ name_faults names ts Frame rest.1 ]
