-- Writing some bytes.
use Rattle.std.proofs.Common.{ℕ, ◌≡◌, ◌≤◌, ◌+◌, min, length, List, ◌∷◌, [], Some, refl, arith}
use Rattle.paths.specs.Prefixes.{Names}
use Rattle.backing.specs.declared.call.Answer.TheVariants.{Wrote}
use Rattle.backing.specs.declared.call.TheConstants.{MAX_FILE_LEN}
use Rattle.backing.specs.declared.entries.Item.TheVariants.{File}
use Rattle.backing.specs.Files.{written}
use Rattle.backing.specs.Tree.{Tree, with_item}
use Rattle.backing.specs.Calls.{AskWrite, Does, end_of}

pub does_write : (old new : Tree) (p : Names) (offset : ℕ) (piece bytes : List ℕ) → (length piece ≡ 0 → ⊥) → old p ≡ Some (File bytes) → new ≡ with_item old p (File (written bytes offset piece)) → Does old (AskWrite p offset piece) (Wrote (length piece)) new
does_write old new p offset [] bytes some file tree = absurd (some refl)
does_write old new p offset (byte ∷ piece) bytes some file tree = (refl, (bytes, file, tree))

pub end_fits : (offset : ℕ) (piece : List ℕ) → min (offset + length piece) 18446744073709551615 ≤ MAX_FILE_LEN → end_of offset piece ≤ MAX_FILE_LEN
end_fits offset [] h = omega arith
end_fits offset (byte ∷ piece) h = omega arith
