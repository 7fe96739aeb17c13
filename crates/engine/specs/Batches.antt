-- Replies that are offered together.
use Rattle.std.specs.Prelude.{ℕ, ◌≡◌, List, [], ◌∷◌}
use Rattle.engine.specs.declared.bytes.ReplyBytes.{ReplyBytes}
use Rattle.engine.specs.declared.bytes.ReplyBytes.TheVariants.{Header, Whole}
use Rattle.engine.specs.declared.links.Sent.{Sent}
use Rattle.engine.specs.declared.links.Sent.TheVariants.{Taken, Untaken, Broken}

-- the bytes of a reply
abbrev pub bytes_of : ReplyBytes → List ℕ
bytes_of (Header frame) = frame
bytes_of (Whole frame) = frame.items

-- Each of these replies is offered, in order and once, until one breaks the link; after that none is. What became of
-- each that was offered is reported in the same order.
abbrev pub SendsEach : {L : Type 0} → (L → List ℕ → Sent → L → Type 0) → L → List (List ℕ) → List Sent → L → Type 0
SendsEach sends link [] [] link' = link' ≡ link
SendsEach sends link [] (sent ∷ sents) link' = ⊥
SendsEach sends link (frame ∷ frames) [] link' = ⊥
SendsEach {L = L} sends link (frame ∷ frames) (Taken ∷ sents) link' = (mid : L) × sends link frame Taken mid × SendsEach sends mid frames sents link'
SendsEach {L = L} sends link (frame ∷ frames) (Untaken ∷ sents) link' = (mid : L) × sends link frame Untaken mid × SendsEach sends mid frames sents link'
SendsEach sends link (frame ∷ frames) (Broken ∷ sents) link' = sends link frame Broken link' × (sents ≡ [])

-- the same, and none broke the link
abbrev pub BeginsEach : {L : Type 0} → (L → List ℕ → Sent → L → Type 0) → L → List (List ℕ) → List Sent → L → Type 0
BeginsEach sends link [] [] link' = link' ≡ link
BeginsEach sends link [] (sent ∷ sents) link' = ⊥
BeginsEach sends link (frame ∷ frames) [] link' = ⊥
BeginsEach {L = L} sends link (frame ∷ frames) (Taken ∷ sents) link' = (mid : L) × sends link frame Taken mid × BeginsEach sends mid frames sents link'
BeginsEach {L = L} sends link (frame ∷ frames) (Untaken ∷ sents) link' = (mid : L) × sends link frame Untaken mid × BeginsEach sends mid frames sents link'
BeginsEach sends link (frame ∷ frames) (Broken ∷ sents) link' = ⊥
