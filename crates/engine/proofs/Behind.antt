-- A receive into a part of a buffer.
use Rattle.std.proofs.Common.{◌≡◌, ℕ, ◌≤◌, ◌-◌, List, ◌++◌, length, take, drop, refl, ap, ◌∙◌, length-append, arith}
use Rattle.std.proofs.lemmas.List.{take_at, drop_at, length-take-le, take-append-le}
use borrow.Rule.Slice.PartMut.{put_mid, post_of}
use Rattle.engine.specs.Links.{Piece, IsWithin, heard}
use Rattle.engine.specs.declared.links.Received.{Received}
use Rattle.engine.specs.declared.links.Received.TheVariants as received

-- a receive into what comes after the front does not change the front
module _ (room new : List ℕ) (from k : ℕ) (inside : from ≤ length room) where
  pub front_left : take from (put_mid from k room new) ≡ take from room
  front_left = take_at (take from room) (new ++ post_of from k room) from (length-take-le from room inside)

  pub heard_behind : (r : Received) → IsWithin r (length new) → heard r (drop from (put_mid from k room new)) ≡ heard r new
  heard_behind (received.Bytes n) within =
      ap (λ (bytes : List ℕ). Piece (take n bytes)) (drop_at (take from room) (new ++ post_of from k room) from (length-take-le from room inside))
      ∙ ap Piece (take-append-le n new (post_of from k room) within)
  heard_behind received.End within = refl
  heard_behind received.Broken within = refl

  pub within_behind : (r : Received) → IsWithin r (length new) → IsWithin r (length (put_mid from k room new) - from)
  within_behind (received.Bytes n) within =
      omega (arith, within, length-append (take from room) (new ++ post_of from k room), length-append new (post_of from k room), length-take-le from room inside)
  within_behind received.End within = tt
  within_behind received.Broken within = tt
