use Rattle.std.proofs.Common.{ℕ, ◌≡◌, refl, sym, ◌∙◌, inl, inr}
use Rattle.std.proofs.lemmas.Bool.{cases_eq}
use Rattle.collections.specs.Links.{IsThere, kin_at}
use Rattle.collections.proofs.Linking.{child_real}
use Rattle.collections.proofs.Unlinking.{linked_without, newer_apart, newer_parent, older_apart, older_parent}
use Rattle.collections.proofs.Written.{if_other, if_same, kin_there, there_as, there_with}
use Rattle.collections.proofs.children.remove_child.Goals as goal

pub returns-clause-lawful : goal.returns-clause-lawful
returns-clause-lawful g c parents law stood =
    let s = c.args.nodes.now in
    let kin = kin_at s in
    let child = c.args.child in
    let p = c.args.parent in
    let rank = law.rank in
    let a = (kin child).newer in
    let b = (kin child).older in
    let one = rw c.kin_in-kin.ensures at c.set_older.ensures in
    let two = rw c.kin_in-kin.ensures at c.set_newer.ensures in
    let three = rw c.kin_in-kin.ensures at c.hand_on.ensures in
    let four = c.set_newer-2.ensures in
    let five = c.set_older-2.ensures in
    let s1 = c.set_older.new.nodes in
    let s2 = c.set_newer.new.nodes in
    let s3 = c.hand_on.new.nodes in
    let s4 = c.set_newer-2.new.nodes in
    let s5 = c.set_older-2.new.nodes in
    let values2 = two.values ∙ one.values in
    let values3 = three.values ∙ values2 in
    let values4 = four.values ∙ values3 in
    let here3 = there_as s s3 values3 child c.requires.there in
    let here4 = there_as s s4 values4 child c.requires.there in
    let there_a : (a ≡ 0 → ⊥) → IsThere s a = λ some. law.there a p (newer_parent parents kin rank law.linked child p stood some) in
    let there_b : (b ≡ 0 → ⊥) → IsThere s1 b = λ some. there_as s s1 one.values b (law.there b p (older_parent parents kin rank law.linked child p stood some)) in
    let newer5 : (m : ℕ) → (child ≡ m → ⊥) → (kin_at s5 m).newer ≡ (kin_at s2 m).newer =
    λ m ne. five.newer m ∙ (four.newer here3 m ∙ (if_other child m 0 (kin_at s3 m).newer ne ∙ three.newer m)) in
    let older5 : (m : ℕ) → (child ≡ m → ⊥) → (kin_at s5 m).older ≡ (kin_at s1 m).older =
    λ m ne. five.older here4 m ∙ (if_other child m 0 (kin_at s4 m).older ne ∙ (four.older m ∙ (three.older m ∙ two.older m))) in
    let newest5 : (m : ℕ) → (kin_at s5 m).newest ≡ (kin_at s3 m).newest = λ m. five.newest m ∙ four.newest m in
    let newest2 : (m : ℕ) → (kin_at s2 m).newest ≡ (kin m).newest = λ m. two.newest m ∙ one.newest m in
    let there_p : a ≡ 0 → IsThere s2 p = λ top. there_as s s2 values2 p (kin_there s p (λ z. child_real parents child p law.linked.none stood (sym (law.linked.first child p stood top) ∙ z))) in
    record {
      there = there_with s s5 (five.values ∙ values4) parents child _ c.requires.there law.there;
      rank = rank;
      linked = linked_without parents kin (kin_at s5) rank child p law.linked stood
          (five.newer child ∙ (four.newer here3 child ∙ if_same child child 0 (kin_at s3 child).newer refl))
          (λ some. newer5 b (λ e. older_apart parents kin rank law.linked child p stood some (sym e)) ∙ (two.newer (there_b some) b ∙ if_same b b a (kin_at s1 b).newer refl))
          (λ m ne off. newer5 m ne ∙ (elim (cases_eq b 0) [
            | inl z ↦ two.none z m
            | inr some ↦ two.newer (there_b some) m ∙ if_other b m a (kin_at s1 m).newer (off some)
          ] ∙ one.newer m))
          (five.older here4 child ∙ if_same child child 0 (kin_at s4 child).older refl)
          (λ some. older5 a (λ e. newer_apart parents kin rank law.linked child some (sym e)) ∙ (one.older (there_a some) a ∙ if_same a a b (kin a).older refl))
          (λ m ne off. older5 m ne ∙ elim (cases_eq a 0) [
            | inl z ↦ one.none z m
            | inr some ↦ one.older (there_a some) m ∙ if_other a m b (kin m).older (off some)
          ])
          (λ top. newest5 p ∙ (three.top top (there_p top) p ∙ if_same p p b (kin_at s2 p).newest refl))
          (λ q off. newest5 q ∙ (elim (cases_eq a 0) [
            | inl top ↦ three.top top (there_p top) q ∙ if_other p q b (kin_at s2 q).newest (off top)
            | inr more ↦ three.newest more q
          ] ∙ newest2 q));
    }
