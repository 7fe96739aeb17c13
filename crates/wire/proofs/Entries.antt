-- Bodies of replies as numbers, one after another.
use Rattle.std.proofs.Common.{◌≡◌, ℕ, List, [], ◌∷◌, ◌++◌, map, refl}
use Rattle.wire.specs.declared.reply.Entry.{Entry}
use Rattle.wire.specs.declared.reply.InitOut.{InitOut}
use Rattle.wire.specs.Replies.{entry_layout, entry_values, opened_layout, opened_values, created_layout, created_values, init_layout, init_values}
use Rattle.wire.specs.Fields.{Field, number, Value, num, CanTell}
use Rattle.wire.proofs.Lengths.{cat_assoc}
use Rattle.wire.specs.Written.{le, zeros, u16s, u32s, written}

-- numbers of these lengths, followed by other fields
pub tells_on : (lens : List ℕ) (vs : List Value) (gs : List Field) (ws : List Value) → CanTell (map number lens) vs → CanTell gs ws → CanTell (map number lens ++ gs) (vs ++ ws)
tells_on [] [] gs ws h k = k
tells_on (len ∷ lens) (num n ∷ vs) gs ws h k = (h.0, tells_on lens vs gs ws h.1 k)
tells_on _ _ gs ws h k = absurd h

abbrev pub entry_lens : List ℕ
entry_lens = 8 ∷ 8 ∷ 8 ∷ 8 ∷ 4 ∷ 4 ∷ 8 ∷ 8 ∷ 8 ∷ 8 ∷ 8 ∷ 8 ∷ 4 ∷ 4 ∷ 4 ∷ 4 ∷ 4 ∷ 4 ∷ 4 ∷ 4 ∷ 4 ∷ 4 ∷ []

pub created_parts : (e : Entry) (fh : ℕ) → written created_layout (created_values e fh) ≡ written entry_layout (entry_values e) ++ written opened_layout (opened_values fh)
unfolding le
created_parts e fh = refl

pub created_tells : (e : Entry) (fh : ℕ) → CanTell entry_layout (entry_values e) → CanTell opened_layout (opened_values fh) → CanTell created_layout (created_values e fh)
created_tells e fh given opened = tells_on entry_lens (entry_values e) opened_layout (opened_values fh) given opened

pub init_parts : (i : InitOut) → written init_layout (init_values i) ≡ u32s (i.major ∷ i.minor ∷ i.max_readahead ∷ i.flags ∷ []) ++ (u16s (i.max_background ∷ i.congestion_threshold ∷ []) ++ (u32s (i.max_write ∷ i.time_gran ∷ []) ++ (u16s (i.max_pages ∷ 0 ∷ []) ++ u32s (0 ∷ 0 ∷ 0 ∷ 0 ∷ 0 ∷ 0 ∷ 0 ∷ 0 ∷ []))))
unfolding le u16s u32s
init_parts i = refl

-- bytes that are not read, as numbers
pub unread_long : zeros 8 ≡ le 8 0
unfolding le zeros
unread_long = refl

pub unread_short : zeros 4 ≡ le 4 0
unfolding le zeros
unread_short = refl

pub ruleset entries = (created_parts, created_tells, init_parts, unread_long, unread_short, cat_assoc)
