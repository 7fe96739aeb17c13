-- What the test of a handle decides.
use Rattle.std.proofs.Common.{ℕ, ◌≡◌, Some, None, refl, sym, ◌∙◌, subst}
use Rattle.std.proofs.lemmas.Option.{none-some, same_Some}
use Rattle.errno.specs.declared.TheConstants.{EBADF}
use Rattle.table_requests.specs.declared.data.Case.{Case}
use Rattle.table_requests.specs.declared.data.Case.TheVariants as cases
use Rattle.table_requests.specs.declared.data.Want.{Want}
use Rattle.table_requests.specs.declared.data.Want.TheVariants as wants
use Rattle.collections.specs.Sum.{IsSum}
use Rattle.tree.specs.Places.{IsTree}
use Rattle.table_footprints.specs.Footprints.{Used, footprint_of}
use Rattle.table_footprints.specs.Cases.{IsCase, Seen}
use Rattle.table_footprints.proofs.Pathless.{closing_there}
use Rattle.table_steps.specs.Beginning.{IsHandleUsable, IsRefusedHandle}
use Rattle.table_steps.specs.Steps.{IsUsable}
use Rattle.table_steps.specs.World.{World, seen_in}

-- the handle that is used does not depend on the case
used_same : (want : Want) (c : Case) → (footprint_of want cases.Plain).used ≡ (footprint_of want c).used
used_same (wants.Node number handle) c = refl
used_same (wants.Name parent name) c = refl
used_same (wants.Remove parent name may_hide) c = refl
used_same (wants.Move parent name new_parent new_name keep) c = refl
used_same (wants.Exchange parent name new_parent new_name) c = refl
used_same (wants.Page folder names) c = refl
used_same (wants.Open number access) c = refl
used_same (wants.Create parent name access) c = refl
used_same (wants.Release number fh) c = refl
used_same (wants.Link number parent name) c = refl

-- a want that uses a handle has a case
case_using : (seen : Seen) → IsTree seen.at → (many : ℕ) → IsSum seen.files (λ file. 1) many → (want : Want) (used : Used) → Some used ≡ (footprint_of want cases.Plain).used → (c : Case) × IsCase seen want c
case_using seen tree many sum (wants.Node number handle) used some = (cases.Plain, refl)
case_using seen tree many sum (wants.Release number fh) used some = closing_there seen.at tree number seen.files many sum
case_using seen tree many sum (wants.Name parent name) used some = absurd (none-some used (sym some))
case_using seen tree many sum (wants.Remove parent name may_hide) used some = absurd (none-some used (sym some))
case_using seen tree many sum (wants.Move parent name new_parent new_name keep) used some = absurd (none-some used (sym some))
case_using seen tree many sum (wants.Exchange parent name new_parent new_name) used some = absurd (none-some used (sym some))
case_using seen tree many sum (wants.Page folder names) used some = absurd (none-some used (sym some))
case_using seen tree many sum (wants.Open number access) used some = absurd (none-some used (sym some))
case_using seen tree many sum (wants.Create parent name access) used some = absurd (none-some used (sym some))
case_using seen tree many sum (wants.Link number parent name) used some = absurd (none-some used (sym some))

module _ (w : World) (want : Want) where
  pub none_used : None ≡ (footprint_of want cases.Plain).used → IsHandleUsable w want
  none_used none c bad = none-some bad.used (none ∙ (used_same want c ∙ bad.asked))

  pub used_well : (used : Used) → Some used ≡ (footprint_of want cases.Plain).used → IsUsable w.files used → IsHandleUsable w want
  used_well used some usable c bad = bad.unusable (subst (λ (u : Used). IsUsable w.files u) (same_Some used bad.used (some ∙ (used_same want c ∙ bad.asked))) usable)

  pub used_badly : (used : Used) → Some used ≡ (footprint_of want cases.Plain).used → IsTree w.at → (many : ℕ) → IsSum w.files (λ file. 1) many → (IsUsable w.files used → ⊥) → IsRefusedHandle w want EBADF
  used_badly used some tree many sum unusable =
      let it = case_using (seen_in w) tree many sum want used some in
      record {
        footprint = footprint_of want it.0;
        footprint_is = record { case = it.0; fits = it.1; footprint = refl };
        errno = refl;
        bad = record { used = used; asked = sym (used_same want it.0) ∙ sym some; unusable = unusable };
      }
