-- Each object has one name after a call, wherever what was handed to it stands, if anywhere.
use Rattle.std.proofs.Common.{ℕ, ◌≡◌, Option, Some, None, refl, ◌⊎◌, inl, inr}
use Rattle.std.proofs.lemmas.Bool.{cases_Bool}
use Rattle.paths.specs.Prefixes.{Names, is_prefix}
use Rattle.disk.specs.Answers.{AreApart}
use Rattle.laws.specs.Objects.{Objects, HasOneName, AllStand, LeadsTo}
use Rattle.laws.specs.ObjectAnswers.{AreNested, Stays}
use Rattle.laws.proofs.Becoming.{stays_once}

object_cases : (found : Option ℕ) → (found ≡ None) ⊎ ((object : ℕ) × (found ≡ Some object))
object_cases None = inl refl
object_cases (Some object) = inr (object, refl)

-- what is open leads to an object at some path, or to none
pub kept : {H : Type 0} (objects objects' : Objects) (old new : H → Option ℕ) (handle : H) → HasOneName objects.at → AllStand objects old
    → (old handle ≡ None → Stays objects old objects' new) → ((p : Names) → LeadsTo objects (old handle) p → HasOneName objects'.at) → HasOneName objects'.at
kept objects objects' old new handle one stand nowhere somewhere = elim (object_cases (old handle)) [
  | inl none ↦ stays_once objects objects' old new one (nowhere none)
  | inr (object, opened) ↦
      let name = stand handle object opened in
      somewhere name.path (record { object = object; stands = name.stands; holds = opened })
]

-- the same of an object alone
pub kept_object : {H : Type 0} (objects objects' : Objects) (old new : H → Option ℕ) (handle : H) → HasOneName objects.at
    → (old handle ≡ None → Stays objects old objects' new) → ((object : ℕ) → old handle ≡ Some object → HasOneName objects'.at) → HasOneName objects'.at
kept_object objects objects' old new handle one nowhere somewhere = elim (object_cases (old handle)) [
  | inl none ↦ stays_once objects objects' old new one (nowhere none)
  | inr (object, opened) ↦ somewhere object opened
]

-- two paths are apart, or one is the other one or leads to it
pub apart_cases : (s t : Names) → AreApart s t ⊎ AreNested s t
apart_cases s t = elim (cases_Bool (is_prefix s t)) [
  | inl into ↦ inr (inl into)
  | inr not_into ↦ elim (cases_Bool (is_prefix t s)) [
    | inl over ↦ inr (inr over)
    | inr not_over ↦ inl (record { not_into = not_into; not_over = not_over })
  ]
]
