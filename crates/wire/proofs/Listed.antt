-- Directory entries as numbers, a name and zeros.
use Rattle.std.proofs.Common.{◌≡◌, ℕ, ◌+◌, ◌^◌, ◌<◌, List, ◌++◌, length, map, replicate, refl, ap, lit<, arith, Option, Some, None}
use Rattle.wire.specs.declared.reply.Entry.{Entry}
use Rattle.payload.specs.declared.attributes.Kind.TheVariants.{Folder, File, Link, Special}
use Rattle.payload.specs.declared.attributes.Special.TheVariants.{Pipe, Socket, Character, Block}
use Rattle.payload.specs.declared.attributes.Kind.{Kind}
use Rattle.wire.specs.Dirents.{Dirent, PlusDirent, IsDirent, IsPlusDirent, dirent_bytes, dirent_in, dirent_layout, dirent_values, given_values, ino_of, padding_of, plus_bytes, plus_layout, plus_values, type_of}
use Rattle.wire.specs.Fields.{Value, num, CanTell}
use Rattle.wire.specs.Replies.{entry_layout}
use Rattle.wire.specs.Written.{le, zeros, joined, written}
use Rattle.wire.proofs.Again.{written_spelled}
use Rattle.wire.proofs.Entries.{entry_lens, tells_on}
use Rattle.wire.proofs.Lengths.{cat_assoc, cat_nil, length-cat, length-le, length-zeros}

pub dirent_parts : (d : Dirent) → dirent_bytes d ≡ le 8 d.ino ++ (le 8 d.next ++ (le 4 (length d.name) ++ (le 4 (type_of d.kind) ++ (d.name ++ zeros (padding_of d.name)))))
unfolding dirent_bytes
dirent_parts d = ap (λ (z : List ℕ). le 8 d.ino ++ (le 8 d.next ++ (le 4 (length d.name) ++ (le 4 (type_of d.kind) ++ (d.name ++ z))))) (cat_nil (zeros (padding_of d.name)))

abbrev no_values : List Value
no_values = map (λ _. num 0) entry_layout

pub none_words : joined (replicate 16 (replicate 8 0)) ≡ written entry_layout no_values
unfolding le
none_words = refl

type_fits : (kind : Kind) → type_of kind < 256 ^ 4
type_fits Folder = lit< tt
type_fits File = lit< tt
type_fits Link = lit< tt
type_fits (Special Pipe) = lit< tt
type_fits (Special Socket) = lit< tt
type_fits (Special (Character _)) = lit< tt
type_fits (Special (Block _)) = lit< tt

dirent_tells : (d : Dirent) → d.ino < 256 ^ 8 → d.next < 256 ^ 8 → length d.name < 256 ^ 4 → CanTell (dirent_layout d) (dirent_values d)
dirent_tells d ino next name = (ino, (next, (name, (type_fits d.kind, (refl, (length-zeros (padding_of d.name), tt))))))

pub is_dirent : (d : Dirent) → d.ino < 2 ^ 64 → d.next < 2 ^ 64 → length d.name < 2 ^ 32 → IsDirent d (dirent_bytes d)
unfolding dirent_bytes
is_dirent d ino next name = written_spelled (dirent_layout d) (dirent_values d) (dirent_tells d (omega arith) (omega arith) (omega arith))

pub given_len : (e : Option Entry) → length (written entry_layout (given_values e)) ≡ 128
unfolding le
given_len None = refl
given_len (Some e) = refl

pub plus_parts : (p : PlusDirent) → plus_bytes p ≡ written entry_layout (given_values p.entry) ++ dirent_bytes (dirent_in p)
unfolding plus_bytes dirent_bytes le
plus_parts p = elim p.entry as (λ e. written (entry_layout ++ dirent_layout (dirent_in (record p { entry = e }))) (given_values e ++ dirent_values (dirent_in (record p { entry = e }))) ≡ written entry_layout (given_values e) ++ dirent_bytes (dirent_in (record p { entry = e }))) [ None ↦ refl | Some e ↦ refl ]

ino_fits : (e : Option Entry) → CanTell entry_layout (given_values e) → ino_of e < 256 ^ 8
ino_fits None h = lit< tt
ino_fits (Some e) h = h.1.1.1.1.1.1.0

pub is_plus_dirent : (p : PlusDirent) → CanTell entry_layout (given_values p.entry) → p.next < 2 ^ 64 → length p.name < 2 ^ 32 → IsPlusDirent p (plus_bytes p)
unfolding plus_bytes
is_plus_dirent p given next name =
    let dirent : CanTell (dirent_layout (dirent_in p)) (dirent_values (dirent_in p)) = dirent_tells (dirent_in p) (ino_fits p.entry given) (omega arith) (omega arith) in
    written_spelled (plus_layout p) (plus_values p) (tells_on entry_lens (given_values p.entry) (dirent_layout (dirent_in p)) (dirent_values (dirent_in p)) given dirent)

pub ruleset dirents = (dirent_parts, plus_parts, cat_assoc)

pub length-dirent : (d : Dirent) → length (dirent_bytes d) ≡ 24 + length d.name + padding_of d.name
length-dirent d = rw (dirent_parts d, length-cat, length-cat, length-cat, length-cat, length-cat, length-le, length-le, length-le, length-le, length-zeros) (omega arith)
