-- What is known of a socket's bytes.
use Rattle.std.specs.Prelude.{ℕ, ◌≡◌, Bool, true, false, if◌then◌else◌, List, Option, None, refl, ◌==◌}
use Rattle.std.specs.Io.KnownBytes.{prepend_known}
use Rattle.std.specs.Io.Buffered.{reader_buffer, reader_capacity, reader_remaining}
use Rattle.std.specs.declared.io.buffered.BufReader.{BufReader}

none_of : (lost : Bool) (held : List ℕ) → (if lost then None else prepend_known held None) ≡ None
none_of true held = refl
none_of false held = refl

-- the bytes of a reader of which nothing is known stay unknown behind a buffer
pub behind_buffer : {T A : Type 0} (reader : BufReader T A) → reader_remaining (λ (_ : T). None) reader ≡ None
behind_buffer reader = none_of (reader_capacity reader == 0) (reader_buffer reader)
