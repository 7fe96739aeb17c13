-- A want has exactly one case, and so one footprint.
use Rattle.std.proofs.Common.{ℕ, ◌≡◌, ◌&&◌, Bool, not, refl, sym, ap, ◌∙◌}
use Rattle.paths.specs.Prefixes.{Name}
use Rattle.table_requests.specs.declared.data.Case.{Case}
use Rattle.table_requests.specs.declared.data.Case.TheVariants as cases
use Rattle.table_requests.specs.declared.data.Want.{Want}
use Rattle.table_requests.specs.declared.data.Want.TheVariants as wants
use Rattle.tree.specs.Places.{Lookup, IsTree}
use Rattle.table_files.specs.Handles.{Files}
use Rattle.table_footprints.specs.Cases.{IsCase, IsClosingCase, IsFootprint, IsEntryCase, IsHidingCase, Seen}
use Rattle.table_footprints.specs.Footprints.{Footprint, AtName, are_same, footprint_of}

entry_once : (at : Lookup) (parent : ℕ) (name : Name) (c d : Case) → IsEntryCase at parent name c → IsEntryCase at parent name d → c ≡ d
entry_once at parent name cases.Plain cases.Plain a b = refl
entry_once at parent name cases.Plain cases.Absent a b = absurd (b a.0 a.1)
entry_once at parent name cases.Absent cases.Plain a b = absurd (a b.0 b.1)
entry_once at parent name cases.Absent cases.Absent a b = refl
entry_once at parent name cases.Pathless d a b = absurd a
entry_once at parent name cases.Plain cases.Pathless a b = absurd b
entry_once at parent name cases.Absent cases.Pathless a b = absurd b
entry_once at parent name cases.Last d a b = absurd a
entry_once at parent name cases.Plain cases.Last a b = absurd b
entry_once at parent name cases.Absent cases.Last a b = absurd b
entry_once at parent name (cases.Hiding n k) d a b = absurd a
entry_once at parent name cases.Plain (cases.Hiding n k) a b = absurd b
entry_once at parent name cases.Absent (cases.Hiding n k) a b = absurd b

closing_once : (at : Lookup) (files : Files) (number : ℕ) (c d : Case) → IsClosingCase at files number c → IsClosingCase at files number d → c ≡ d
closing_once at files number cases.Plain cases.Plain a b = refl
closing_once at files number cases.Plain cases.Pathless a b = absurd (b a.0)
closing_once at files number cases.Plain cases.Last a b = absurd (a.1 b.1)
closing_once at files number cases.Pathless cases.Plain a b = absurd (a b.0)
closing_once at files number cases.Pathless cases.Pathless a b = refl
closing_once at files number cases.Pathless cases.Last a b = absurd (a b.0)
closing_once at files number cases.Last cases.Plain a b = absurd (b.1 a.1)
closing_once at files number cases.Last cases.Pathless a b = absurd (b a.0)
closing_once at files number cases.Last cases.Last a b = refl
closing_once at files number cases.Absent d a b = absurd a
closing_once at files number cases.Plain cases.Absent a b = absurd b
closing_once at files number cases.Pathless cases.Absent a b = absurd b
closing_once at files number cases.Last cases.Absent a b = absurd b
closing_once at files number (cases.Hiding n k) d a b = absurd a
closing_once at files number cases.Plain (cases.Hiding n k) a b = absurd b
closing_once at files number cases.Pathless (cases.Hiding n k) a b = absurd b
closing_once at files number cases.Last (cases.Hiding n k) a b = absurd b

hiding_once : (seen : Seen) → IsTree seen.at → (parent : ℕ) (name : Name) (may_hide : Bool) (c d : Case) → IsHidingCase seen parent name may_hide c → IsHidingCase seen parent name may_hide d → c ≡ d
hiding_once seen tree parent name may_hide cases.Plain cases.Plain a b = refl
hiding_once seen tree parent name may_hide cases.Plain cases.Absent a b = absurd b
hiding_once seen tree parent name may_hide cases.Plain (cases.Hiding n k) a b = absurd (a b.0 n b.2 b.3)
hiding_once seen tree parent name may_hide cases.Absent d a b = absurd a
hiding_once seen tree parent name may_hide (cases.Hiding n k) cases.Plain a b = absurd (b a.0 n a.2 a.3)
hiding_once seen tree parent name may_hide (cases.Hiding n k) cases.Absent a b = absurd b
hiding_once seen tree parent name may_hide (cases.Hiding n k) (cases.Hiding m j) a b =
    ap (λ i. cases.Hiding i k) (tree.apart n m parent name a.2 b.2) ∙ ap (λ i. cases.Hiding m i) (a.1 ∙ sym b.1)
hiding_once seen tree parent name may_hide cases.Pathless d a b = absurd a
hiding_once seen tree parent name may_hide cases.Plain cases.Pathless a b = absurd b
hiding_once seen tree parent name may_hide (cases.Hiding n k) cases.Pathless a b = absurd b
hiding_once seen tree parent name may_hide cases.Last d a b = absurd a
hiding_once seen tree parent name may_hide cases.Plain cases.Last a b = absurd b
hiding_once seen tree parent name may_hide (cases.Hiding n k) cases.Last a b = absurd b

case_once : (seen : Seen) → IsTree seen.at → (want : Want) (c d : Case) → IsCase seen want c → IsCase seen want d → c ≡ d
case_once seen tree (wants.Node number handle) c d a b = a ∙ sym b
case_once seen tree (wants.Name parent name) c d a b = entry_once seen.at parent name c d a b
case_once seen tree (wants.Remove parent name may_hide) c d a b = hiding_once seen tree parent name may_hide c d a b
case_once seen tree (wants.Move parent name new_parent new_name keep) c d a b = hiding_once seen tree new_parent new_name (not keep && not (are_same (AtName parent name) (AtName new_parent new_name))) c d a b
case_once seen tree (wants.Exchange parent name new_parent new_name) c d a b = a ∙ sym b
case_once seen tree (wants.Page folder names) c d a b = a ∙ sym b
case_once seen tree (wants.Open number access) c d a b = a ∙ sym b
case_once seen tree (wants.Create parent name access) c d a b = entry_once seen.at parent name c d a b
case_once seen tree (wants.Release number fh) c d a b = closing_once seen.at seen.files number c d a b
case_once seen tree (wants.Link number parent name) c d a b = entry_once seen.at parent name c d a b

pub demand_once : (seen : Seen) (want : Want) (d e : Footprint) → IsTree seen.at → IsFootprint seen want d → IsFootprint seen want e → d ≡ e
demand_once seen want d e tree a b = a.footprint ∙ (ap (λ c. footprint_of want c) (case_once seen tree want a.case b.case a.fits b.fits) ∙ sym b.footprint)
