-- What a read gives goes behind what was read before.
use Rattle.std.proofs.Common.{◌≡◌, ℕ, ◌+◌, ◌-◌, ◌≤◌, List, ◌++◌, rules, length, take, sym, ap, ◌∙◌, subst, length-take-le}
use Rattle.std.proofs.lemmas.List.{take-append-le}
use Rattle.std.proofs.Math.Seq.{take-append-add}
use Rattle.std.proofs.KnownBytes.{Consumes-trans}
use Rattle.std.specs.Io.KnownBytes.{Consumes}
use borrow.Rule.Slice.PartMut.{put_mid, post_of}
use Rattle.host.proofs.read_full.Goals as goal

take-read : (a k n : ℕ) (xs ys : List ℕ) → a ≤ length xs → n ≤ length ys → take (a + n) (put_mid a k xs ys) ≡ take a xs ++ take n ys
take-read a k n xs ys within fits =
    let before = take a xs in
    let after = ys ++ post_of a k xs in
    ap (λ m. take (m + n) (before ++ after)) (sym (length-take-le a xs within))
    ∙ take-append-add before after n
    ∙ ap (λ l. before ++ l) (take-append-le n ys _ fits)

pub loop-count-preserved : goal.loop-count-preserved
loop-count-preserved g c =
    let count = c.loop-count.count in
    let bytes = c.loop-count.bytes in
    let joined = take-read count (length bytes - count) c.in-Ok.more bytes c.read_some.new.bytes c.loop-count.invariant.0 (search rules) in
    (search rules, subst (Consumes _ _) (sym joined) (Consumes-trans _ _ _ _ _ c.loop-count.invariant.1 c.in-Ok.ensures.bytes.0))
