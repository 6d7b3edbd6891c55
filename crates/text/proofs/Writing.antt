-- Laws of texts that a writer puts: a text and then another are both together, and what is put first stands in front of the space.
use mathlib.Core.List.{List, [], ◌++◌, append_assoc}
use mathlib.Core.Path.{◌≡◌, refl, sym, ap, ◌∙◌}
use Prim.Native.Nat.{ℕ, ◌+◌, ◌≤◌}
use native.Mathlib.Nat.{add-zero}
use native.Mathlib.Omega.{arith}
use lib.ListN.{length, take, drop, length-append, take-append-drop}
use lib.Seq.{length-take-le, take_at, drop_at, drop-drop}
use Rattle.text.specs.declared.writer.Writer.{Writer}
use Rattle.text.specs.Writing.{Puts}

infixl 40 ◌then◌
infixl 35 ◌within◌
pub nothing_put : (w : Writer) → w.count ≤ length w.space.now → Puts 0 [] w w
nothing_put w fits = record {
  same = refl;
  long = refl;
  counts = sym (add-zero w.count);
  small = omega arith;
  room = fits;
  holds = sym (take-append-drop w.count w.space.now);
}

module _ {m : ℕ} {s : List ℕ} {before mid : Writer} (p : Puts m s before mid) where
  abbrev old : List ℕ
  old = before.space.now

  abbrev front : List ℕ
  front = take before.count old ++ s

  front_length : length front ≡ mid.count
  front_length = length-append (take before.count old) s ∙ rw (length-take-le before.count old (omega (arith, p.counts, p.room))) (sym p.counts)

  seam : mid.space.now ≡ front ++ drop mid.count old
  seam = p.holds ∙ sym (append_assoc (take before.count old) s (drop mid.count old))

  -- a second text behind the first
  pub ◌then◌ : {k : ℕ} {t : List ℕ} {after : Writer} → Puts k t mid after → Puts (m + k) (s ++ t) before after
  ◌then◌ {t = t} {after = after} q =
      let first : take mid.count mid.space.now ≡ front = ap (take mid.count) seam ∙ take_at front (drop mid.count old) mid.count front_length in
      let rest : drop mid.count mid.space.now ≡ drop mid.count old =
      ap (drop mid.count) seam ∙ drop_at front (drop mid.count old) mid.count front_length in
      let behind : drop after.count mid.space.now ≡ drop after.count old =
      ap (λ (place : ℕ). drop place mid.space.now) q.counts ∙ sym (drop-drop (length t) mid.count mid.space.now) ∙ ap (drop (length t)) rest
      ∙ drop-drop (length t) mid.count old ∙ ap (λ (place : ℕ). drop place old) (sym q.counts) in
      record {
        same = q.same ∙ p.same;
        long = q.long ∙ p.long;
        counts = simp length-append (omega (arith, p.counts, q.counts));
        small = omega (arith, p.small, q.small);
        room = omega (arith, q.room, p.long);
        holds = q.holds ∙ rw (first, behind) (simp append_assoc);
      }

  -- room for more bytes was asked for
  pub ◌within◌ : {most : ℕ} → m ≤ most → Puts most s before mid
  ◌within◌ enough =
      record { same = p.same; long = p.long; counts = p.counts; small = omega (arith, p.small); room = p.room; holds = p.holds }
