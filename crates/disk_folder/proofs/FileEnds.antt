-- How reads and writes end, and what is open then.
use Rattle.std.proofs.Common.{ℕ, ℤ, Result, Ok, Err, IfOk, IfErr, ◌≡◌, ◌<◌, List, [], Option, Some, length, take, refl, sym, ap, ◌∙◌, subst, inl, inr, arith}
use Rattle.std.specs.Option.{option_map}
use Rattle.std.proofs.lemmas.List.{take_all}
use Rattle.paths.specs.Prefixes.{Names}
use Rattle.backing.specs.declared.call.Answer.{Answer}
use Rattle.backing.specs.declared.call.Answer.TheVariants.{Bytes, Done, Wrote}
use Rattle.payload.specs.declared.attributes.Kind.TheVariants as kinds
use Rattle.backing.specs.declared.entries.Item.{Item}
use Rattle.backing.specs.declared.entries.Item.TheVariants.{File}
use Rattle.backing.specs.Files.{read, resized, written}
use Rattle.backing.specs.Tree.{Tree, IsTree, IsFile, kind_of, with_item}
use Rattle.backing.specs.Calls.{AskRead, AskSetLen, AskWrite, PassesAll}
use Rattle.backing.specs.Checks.{file_tests}
use Rattle.backing.proofs.Lawful.{some_item}
use Rattle.backing.proofs.Looking.{with_other, with_same}
use Rattle.backing.proofs.PathLemmas.{same_path}
use Rattle.backing.proofs.WriteLemmas.{does_write}
use Rattle.disk.specs.Answers.{AllStay, Cuts, CutsFile, Stays}
use Rattle.disk.specs.declared.error.DiskError.{DiskError}
use Rattle.disk.specs.declared.error.DiskError.TheVariants.{Absent, Exists, NotFolder, IsFolder as IsOne, NotEmpty, Failed as Lost}
use Rattle.disk_folder.specs.declared.open_cache.OpenCache.{OpenCache}
use Rattle.disk_folder.specs.declared.trouble.Trouble.{Trouble}
use Rattle.disk_folder.specs.declared.trouble.Trouble.TheVariants.{Refused, Failed}
use Rattle.disk_folder.specs.Ends.{Ends, Fails, Before, Within, After}
use Rattle.disk_folder.specs.Parts.{WroteSoFar}
use Rattle.disk_folder.specs.Standing.{AllStand}
use Rattle.disk_folder.specs.Stays.{StaysOpen}
use Rattle.disk_folder.specs.Troubles.{IsFailure}
use Rattle.disk_folder.proofs.WayLemmas.{leads}

file_yes : (o : Option Item) (bytes : List ℕ) → o ≡ Some (File bytes) → IsFile o
file_yes o bytes e = subst (λ (x : Option Item). IsFile x) (sym e) tt

-- a file is found
pub file_passes : (at : Tree) (p : Names) (bytes : List ℕ) → IsTree at → at p ≡ Some (File bytes) → PassesAll at (file_tests p)
file_passes at p bytes t file =
    let some = some_item (at p) (File bytes) file in
    (leads at p t some, (some, (file_yes (at p) bytes file, tt)))

-- what a file's bytes become is of the same kind
kind_written : (at : Tree) (p : Names) (before after : List ℕ) (q : Names) → at p ≡ Some (File before) → option_map kind_of (with_item at p (File after) q) ≡ option_map kind_of (at q)
kind_written at p before after q file = elim (same_path p q) [
  | inl e ↦
      let one : option_map kind_of (with_item at p (File after) q) ≡ Some kinds.File = subst (λ (r : Names). option_map kind_of (with_item at p (File after) r) ≡ Some kinds.File) e (ap (λ (o : Option Item). option_map kind_of o) (with_same at p (File after))) in
      let two : option_map kind_of (at q) ≡ Some kinds.File = subst (λ (r : Names). option_map kind_of (at r) ≡ Some kinds.File) e (ap (λ (o : Option Item). option_map kind_of o) file) in
      one ∙ sym two
  | inr far ↦ ap (λ (o : Option Item). option_map kind_of o) (with_other at p (File after) q far)
]

kinds_same : (at at' : Tree) (q : Names) → at' ≡ at → option_map kind_of (at' q) ≡ option_map kind_of (at q)
kinds_same at at' q e = ap (λ (t : Tree). option_map kind_of (t q)) e

-- what is open stands where nothing has changed
pub same_open : {H : Type 0} (at at' : Tree) (olds news : H → Names → Type 0) → Stays at olds at' news → StaysOpen at olds at' news
same_open at at' olds news stays = record { stay = stays.stay; kinds = λ q. kinds_same at at' q stays.tree }

-- what is open stands where a file's bytes have changed
pub written_open : {H : Type 0} (at at' : Tree) (olds news : H → Names → Type 0) (p : Names) (before after : List ℕ) → at p ≡ Some (File before) → at' ≡ with_item at p (File after) → AllStay olds news → StaysOpen at olds at' news
written_open at at' olds news p before after file tree stay = record {
  stay = stay;
  kinds = λ q. kinds_same (with_item at p (File after)) at' q tree ∙ kind_written at p before after q file;
}

pub wrote_open : {H : Type 0} (at at' : Tree) (olds news : H → Names → Type 0) (p : Names) (before : List ℕ) (offset : ℕ) (piece : List ℕ) (n : ℕ) → at p ≡ Some (File before) → WroteSoFar at p before offset piece n at' → AllStay olds news → StaysOpen at olds at' news
wrote_open at at' olds news p before offset piece n file (inl none) stay = record { stay = stay; kinds = λ q. kinds_same at at' q none.1 }
wrote_open at at' olds news p before offset piece n file (inr on) stay = written_open at at' olds news p before (written before offset (take n piece)) file on.1 stay

-- what is kept stands where it stood
pub stand_stays : {H : Type 0} (at at' : Tree) (olds news : H → Names → Type 0) (c : OpenCache H) → StaysOpen at olds at' news → AllStand at olds c → AllStand at' news c
stand_stays at at' olds news c stays all = record {
  each = λ p opened is.
      let it = all.each p opened is in
      record { handle = stays.stay opened.handle p it.handle; kind = stays.kinds p ∙ it.kind };
}

-- nothing is written where there are no bytes
pub write_none : (at : Tree) (p : Names) (before : List ℕ) (offset : ℕ) (piece : List ℕ) → IsTree at → at p ≡ Some (File before) → piece ≡ [] → Ends at (AskWrite p offset piece) (Ok (Wrote 0)) at
write_none at p before offset piece t file e =
    let passes = file_passes at p before t file in
    subst (λ (bs : List ℕ). Ends at (AskWrite p offset bs) (Ok (Wrote 0)) at) (sym e) ((passes.0, (passes.1.0, (passes.1.1.0, (tt, tt)))), (refl, refl))

-- all is written
pub write_whole : (at at' : Tree) (p : Names) (before : List ℕ) (offset : ℕ) (piece : List ℕ) → IsTree at → at p ≡ Some (File before) → 0 < length piece → WroteSoFar at p before offset piece (length piece) at' → Ends at (AskWrite p offset piece) (Ok (Wrote (length piece))) at'
write_whole at at' p before offset piece t file some wrote =
    let passes = file_passes at p before t file in
    let there : length piece ≡ 0 → ⊥ = λ e. absurd (omega (arith, e, some)) in
    let tree : at' ≡ with_item at p (File (written before offset piece)) = elim wrote [
      | inl none ↦ absurd (there none.0)
      | inr on ↦ on.1 ∙ ap (λ (bs : List ℕ). with_item at p (File (written before offset bs))) (take_all (length piece) piece (omega arith))
    ] in
    ((passes.0, (passes.1.0, (passes.1.1.0, (tt, tt)))), does_write at at' p offset piece before there file tree)

-- the first bytes are written, or none
pub write_part : (at at' : Tree) (p : Names) (before : List ℕ) (offset : ℕ) (piece : List ℕ) (n : ℕ) (trouble : Trouble) → IsTree at → at p ≡ Some (File before) → IsFailure trouble → n < length piece → WroteSoFar at p before offset piece n at' → Ends at (AskWrite p offset piece) (Err trouble) at'
write_part at at' p before offset piece n (Refused reason) t file failure short wrote = absurd failure
write_part at at' p before offset piece n (Failed errno) t file failure short (inl none) = Before none.1
write_part at at' p before offset piece n (Failed errno) t file failure short (inr on) =
    let passes = file_passes at p before t file in
    Within (passes.0, (passes.1.0, (passes.1.1.0, (tt, tt)))) (n, on.0, short, (before, file, on.1))

-- what is read of a file
pub read_ends : (at : Tree) (p : Names) (before : List ℕ) (offset size : ℕ) (result : Result Answer Trouble) → IsTree at → at p ≡ Some (File before) → IfOk result (λ answer. answer ≡ Bytes (read before offset size)) → IfErr result IsFailure → Ends at (AskRead p offset size) result at
read_ends at p before offset size (Ok answer) t file is err = (file_passes at p before t file, ((before, file, is), refl))
read_ends at p before offset size (Err (Refused reason)) t file is err = absurd err
read_ends at p before offset size (Err (Failed errno)) t file is err = Before refl

-- the file has another length
pub cut_ends : {H : Type 0} (at at' : Tree) (olds news : H → Names → Type 0) (path : Names) (size : ℕ) → IsTree at → CutsFile at olds path size at' news → Ends at (AskSetLen path size) (Ok Done) at'
cut_ends at at' olds news path size t cut =
    let passes = file_passes at path cut.bytes t cut.stands in
    ((passes.0, (passes.1.0, (passes.1.1.0, (tt, tt)))), (refl, (cut.bytes, cut.stands, cut.tree)))

cut_after : {H : Type 0} (at at' : Tree) (olds news : H → Names → Type 0) (path : Names) (size : ℕ) → IsTree at → CutsFile at olds path size at' news → Fails at (AskSetLen path size) at'
cut_after at at' olds news path size t cut = After Done (inl (cut_ends at at' olds news path size t cut))

pub not_cut_ends : {H : Type 0} (at at' : Tree) (olds news : H → Names → Type 0) (path : Names) (size : ℕ) (error : DiskError) (errno : ℤ) → IsTree at → Cuts at olds path size (Err error) at' news → Ends at (AskSetLen path size) (Err (Failed errno)) at'
not_cut_ends at at' olds news path size (Lost number) errno t (inl none) = Before none.tree
not_cut_ends at at' olds news path size (Lost number) errno t (inr all) = cut_after at at' olds news path size t all
not_cut_ends at at' olds news path size Absent errno t none = Before none.tree
not_cut_ends at at' olds news path size Exists errno t none = Before none.tree
not_cut_ends at at' olds news path size NotFolder errno t none = Before none.tree
not_cut_ends at at' olds news path size IsOne errno t none = Before none.tree
not_cut_ends at at' olds news path size NotEmpty errno t none = Before none.tree

pub cut_open : {H : Type 0} (at at' : Tree) (olds news : H → Names → Type 0) (path : Names) (size : ℕ) → CutsFile at olds path size at' news → StaysOpen at olds at' news
cut_open at at' olds news path size cut = written_open at at' olds news path cut.bytes (resized size cut.bytes) cut.stands cut.tree cut.stay

pub not_cut_open : {H : Type 0} (at at' : Tree) (olds news : H → Names → Type 0) (path : Names) (size : ℕ) (error : DiskError) → Cuts at olds path size (Err error) at' news → StaysOpen at olds at' news
not_cut_open at at' olds news path size (Lost number) (inl none) = same_open at at' olds news none
not_cut_open at at' olds news path size (Lost number) (inr all) = cut_open at at' olds news path size all
not_cut_open at at' olds news path size Absent none = same_open at at' olds news none
not_cut_open at at' olds news path size Exists none = same_open at at' olds news none
not_cut_open at at' olds news path size NotFolder none = same_open at at' olds news none
not_cut_open at at' olds news path size IsOne none = same_open at at' olds news none
not_cut_open at at' olds news path size NotEmpty none = same_open at at' olds news none
