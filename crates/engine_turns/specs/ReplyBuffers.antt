-- The bytes in a reply buffer.
use Rattle.std.specs.Prelude.{ℕ, List, Option, Some, None}
use Rattle.engine.specs.Batches.{bytes_of}
use Rattle.engine.specs.declared.bytes.ReplyBytes.{ReplyBytes}

abbrev pub bytes_in : Option ReplyBytes → Option (List ℕ)
bytes_in None = None
bytes_in (Some bytes) = Some (bytes_of bytes)
