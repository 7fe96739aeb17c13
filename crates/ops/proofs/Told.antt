-- How many bytes the entries of an open folder take.
use Rattle.std.proofs.Common.{◌≡◌, ℕ, ◌+◌, ◌*◌, ◌/◌, ◌%◌, ◌-◌, true, false, if◌then◌else◌, List, [], ◌∷◌, ◌++◌, length, drop, Option, Some, None, refl, ap, sym, ◌∙◌, arith}
use Rattle.std.proofs.Math.Seq.{drop-append_seam}
use Rattle.std.specs.List.{flat_map}
use Rattle.std.proofs.lemmas.List.{length-append}
use Rattle.std.proofs.lemmas.List.Sums.{sum_by-cons}
use Rattle.backing.specs.declared.call.Child.{Child}
use Rattle.handles.specs.Pages.{bytes_of, padded}
use Rattle.table_requests.specs.declared.data.Given.{Given}
use Rattle.handles.specs.Names.{is_dot}
use Rattle.wire.specs.Dirents.{Dirent, PlusDirent, dirent_bytes, dirent_in, given_values, plus_bytes}
use Rattle.wire.specs.Replies.{entry_layout}
use Rattle.wire.specs.Written.{written}
use Rattle.wire.specs.declared.dirents.TheConstants.{NO_INO}
use Rattle.wire.proofs.Listed.{given_len, length-dirent, plus_parts}
use Rattle.ops.specs.Folders.{names_bytes}
use Rattle.ops.specs.Replies.{entries_bytes, first, plus_entry, plus_from}
use Rattle.ops.specs.declared.findings.FoundFile.{FoundFile}
use Rattle.terms.specs.declared.settings.Settings.{Settings}

filled : (n : ℕ) → n + (8 - n % 8) % 8 ≡ (n + 7) / 8 * 8
filled n = omega arith

-- they have the length that a page counts
pub length-names : (at : ℕ) (cs : List Child) → length (names_bytes at cs) ≡ bytes_of false cs
length-names at [] = refl
length-names at (c ∷ cs) =
    let d : Dirent = record { ino = NO_INO; next = at + 1; kind = c.kind; name = c.name } in
    omega (arith, length-append (dirent_bytes d) (names_bytes (at + 1) cs), length-dirent d, filled (24 + length c.name), sum_by-cons (padded false) c cs, length-names (at + 1) cs)

-- ---- the same with the node of each

filled_plus : (n : ℕ) → 128 + (24 + n + (8 - (24 + n) % 8) % 8) ≡ (152 + n + 7) / 8 * 8
filled_plus n = omega arith

length-plus : (p : PlusDirent) → length (plus_bytes p) ≡ (152 + length p.name + 7) / 8 * 8
length-plus p =
    let given = written entry_layout (given_values p.entry) in
    let whole : length (plus_bytes p) ≡ length (given ++ dirent_bytes (dirent_in p)) = ap (λ (bytes : List ℕ). length bytes) (plus_parts p) in
    omega (arith, whole, length-append given (dirent_bytes (dirent_in p)), given_len p.entry, length-dirent (dirent_in p), filled_plus (length p.name))

length-entry : (s : Settings) (next : ℕ) (child : Child) (found : Option FoundFile) (given : Option Given) → length (plus_bytes (plus_entry s next child found given)) ≡ padded true child
length-entry s next child None given = length-plus (plus_entry s next child None given)
length-entry s next child (Some found) None = length-plus (plus_entry s next child (Some found) None)
length-entry s next child (Some found) (Some given) = length-plus (plus_entry s next child (Some found) (Some given))

pub length-entries : (s : Settings) (at : ℕ) (cs : List Child) (founds : List (Option FoundFile)) (givens : List (Option Given)) → length (entries_bytes s at cs founds givens) ≡ bytes_of true cs
length-entries s at [] founds givens = refl
length-entries s at (c ∷ cs) founds givens =
    let dot = plus_entry s (at + 1) c None None in
    let name = plus_entry s (at + 1) c (first founds) (first givens) in
    let same = plus_from s (at + 1) cs founds givens in
    let more = plus_from s (at + 1) cs (drop 1 founds) (drop 1 givens) in
    elim (is_dot c.name) as (λ b. length (flat_map plus_bytes (if b then dot ∷ same else name ∷ more)) ≡ bytes_of true (c ∷ cs)) [
      | true ↦ omega (arith, length-append (plus_bytes dot) (flat_map plus_bytes same), length-entry s (at + 1) c None None, sum_by-cons (padded true) c cs, length-entries s (at + 1) cs founds givens)
      | false ↦ omega (arith, length-append (plus_bytes name) (flat_map plus_bytes more), length-entry s (at + 1) c (first founds) (first givens), sum_by-cons (padded true) c cs, length-entries s (at + 1) cs (drop 1 founds) (drop 1 givens))
    ]

-- ---- what is written behind room for a header

pub behind_room : (room page bytes : List ℕ) (n : ℕ) → length room ≡ n → page ≡ room ++ bytes → drop n page ≡ bytes
behind_room room page bytes n len is = ap (λ (k : ℕ). drop k page) (sym len) ∙ (ap (λ (all : List ℕ). drop (length room) all) is ∙ drop-append_seam room bytes)
