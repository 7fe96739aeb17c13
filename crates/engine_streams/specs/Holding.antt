-- A writer that holds bytes back.
use Rattle.std.specs.Prelude.{ℕ, List, Option}
use Rattle.std.specs.Io.KnownBytes.{append_known}
use Rattle.engine_streams.specs.declared.holding.Holding.{Holding}

-- what was written, followed by what is held back
abbrev pub contents_of : {W : Type 0} → (W → Option (List ℕ)) → Holding W → Option (List ℕ)
contents_of contents holding = append_known (contents holding.writer) holding.held
