-- A total handed out along a queue: each order of the queue gets its share, once, until the total is used up; all other places stay as they
-- were.
use mathlib.Core.Bool.{Bool, true, false, cond, false≢true}
use mathlib.Core.List.{List}
use mathlib.Core.Logic.{◌⊎◌, inl, inr}
use mathlib.Core.Path.{◌≡◌, refl, sym, ap, ◌∙◌}
use Prim.Native.Nat.{ℕ, zero, suc, ◌+◌, ◌-◌, ◌≤◌, ◌<◌, min}
use native.Mathlib.Decide.{dec_le}
use native.Mathlib.Numerals.{add-one}
use native.Mathlib.Omega.{arith}
use lib.ListN.{length, set, length-set}
use lib.Seq.{get_or-set_same, get_or-set_other}
use Rattle.claims.specs.Orders.{left, side, el}
use Rattle.claims.proofs.Priority.{three}
use Rattle.claims.proofs.Sums.{last_or_before, sum_longer}
use Rattle.lines.proofs.Summing.{sum_none, sum_next, GoneBy}
use Rattle.lines.specs.Keys.{number_in, amount_in}
use Rattle.lines.specs.Lines.{Found, up_to}
use Rattle.lines.specs.Pieces.{most_pieces, pieces_of}
use Rattle.rules.specs.AuctionPrice.{Auction}
use Rattle.rules.specs.Fills.{ahead, share}
use Rattle.rules.specs.Limits.{same_side}
use Rattle.rules.specs.Lists.{sum_to}
use Rattle.rules.specs.Sheet.{most_orders}
use Rattle.rules.specs.declared.Heading.{Heading}
use Rattle.rules.specs.declared.Pieces.{Pieces}
use Rattle.rules.specs.declared.Side.{Side}
use Rattle.rules.specs.declared.Standing.{Standing}
use Rattle.sorting.specs.Sorted.{item}
use Rattle.filling.specs.Handing.{Given, HandedTo}

-- what the order at place j of a queue gets
abbrev part : List Standing → List ℕ → ℕ → ℕ → ℕ
part os queue total j = min (left os (number_in (item queue j))) (total - up_to queue j)

-- the first i orders of the queue have got theirs
pub record HandedOut (queue : List ℕ) (total : ℕ) (before after : List Pieces) (upto i : ℕ) : Type 0 where
  pub so_far : GoneBy queue i upto
  pub long : length after ≡ most_orders
  pub done : (h : Heading) (a : Auction) (os : List Standing) (s : Side) → Given h a os s queue → (j : ℕ) → j < i
      → pieces_of after (number_in (item queue j)) ≡ part os queue total j
  pub rest : (k : ℕ) → ((j : ℕ) → j < i → number_in (item queue j) ≡ k → ⊥) → pieces_of after k ≡ pieces_of before k

pub handed_none : (queue : List ℕ) (total : ℕ) {before : List Pieces} → length before ≡ most_orders → HandedOut queue total before before 0 0
handed_none queue total long = record {
  so_far = sum_none _ _;
  long = long;
  done = λ h a os s g j l. absurd (omega arith);
  rest = λ k never. refl;
}

module _ {h : Heading} {a : Auction} {os : List Standing} {s : Side} {queue : List ℕ} (g : Given h a os s queue) where
  rises : (i j : ℕ) → i ≤ j → up_to queue i ≤ up_to queue j
  rises i j l = sum_longer (λ k. amount_in (item queue k)) i j l

  -- no order stands at two places of the queue
  once : (i j : ℕ) → i < length queue → j < length queue → number_in (item queue i) ≡ number_in (item queue j) → i ≡ j
  once i j l m e = go (three i j)
    where
      same : up_to queue i ≡ up_to queue j
      same = sym (g.standing.order i l).begin ∙ ap (ahead h a os) e ∙ (g.standing.order j m).begin

      go : (i < j) ⊎ ((i ≡ j) ⊎ (j < i)) → i ≡ j
      go (inl b) = let o = g.standing.order i l in absurd (omega (arith, same, o.extend, o.some, rises (suc i) j b))
      go (inr (inl q)) = q
      go (inr (inr b)) = let o = g.standing.order j m in absurd (omega (arith, same, o.extend, o.some, rises (suc j) i b))

  -- an order's entry has its pieces, which have room
  own_pieces : (i : ℕ) → i < length queue → left os (number_in (item queue i)) ≡ amount_in (item queue i)
  unfolding sum_to
  own_pieces i l = omega (arith, (g.standing.order i l).extend)

  own_small : (i : ℕ) → i < length queue → amount_in (item queue i) ≤ most_pieces
  own_small i l = omega (arith, own_pieces i l, g.small (number_in (item queue i)) (g.standing.order i l).below)

-- ---- One order more

module _ {queue : List ℕ} {total : ℕ} {before after : List Pieces} {upto i : ℕ} (so : HandedOut queue total before after upto i) where
  pub handed_more : i < length queue → {number pieces : ℕ} {x : Pieces} → number ≡ number_in (item queue i) → number ≤ 119
      → pieces ≡ amount_in (item queue i) → x.0 ≡ min (min pieces (total - upto)) most_pieces
      → HandedOut queue total before (set after number x) (upto + pieces) (i + 1)
  handed_more l {number} {pieces} {x} is fits own got = record {
    so_far = sum_next so.so_far l own (omega (arith, own));
    long = length-set after number x ∙ so.long;
    done = λ h a os s g j b. at h a os s g j (last_or_before (rw (add-one i) at b));
    rest = λ k never.
        let other : k ≡ number → ⊥ = λ q. never i (omega arith) (sym is ∙ sym q) in
        ap (λ (m : Pieces). m.0) (get_or-set_other after number k x _ other) ∙ so.rest k (λ j b. never j (omega arith));
  }
    where
      at : (h : Heading) (a : Auction) (os : List Standing) (s : Side) → Given h a os s queue → (j : ℕ) → (j ≡ i) ⊎ (j < i)
          → pieces_of (set after number x) (number_in (item queue j)) ≡ part os queue total j
      at h a os s g j (inl q) =
          let here : number < length after = omega (arith, so.long) in
          rw (q, own_pieces g i l, ← is)
          (ap (λ (m : Pieces). m.0) (get_or-set_same after number x _ here)
          ∙ got
          ∙ rw (own, so.so_far.is) (least (amount_in (item queue i)) (total - up_to queue i) (own_small g i l)))
        where
          least : (x y : ℕ) → x ≤ most_pieces → min (min x y) most_pieces ≡ min x y
          least x y small = omega arith
      at h a os s g j (inr b) =
          let other : number_in (item queue j) ≡ number → ⊥ =
          λ q. let same = once g j i (omega arith) l (q ∙ is) in omega arith in
          ap (λ (m : Pieces). m.0) (get_or-set_other after number (number_in (item queue j)) x _ other) ∙ so.done h a os s g j b

  -- ---- All of them

  -- nobody from place i on gets anything
  handed_all : ((j : ℕ) → i ≤ j → j < length queue → total ≤ up_to queue j) → (h : Heading) (a : Auction) (os : List Standing) (s : Side)
      → Given h a os s queue → HandedTo h a os s total before after
  unfolding share
  handed_all used h a os s g = record {
    long = so.long;
    shares = λ k l own none. got k l own none (el h a os k) refl;
    others = λ k never.
        so.rest k
        (λ j b e. let o = g.standing.order j (omega (arith, so.so_far.within)) in never (rw (← e) o.below) (rw (← e) o.own));
  }
    where
      got : (k : ℕ) → k < length os → same_side s (side os k) ≡ true → pieces_of before k ≡ 0 → (t : Bool) → el h a os k ≡ t
          → pieces_of after k ≡ cond t (min (left os k) (total - ahead h a os k)) 0
      got k l own none false e =
          so.rest k
          (λ j b f. let o = g.standing.order j (omega (arith, so.so_far.within)) in false≢true (sym e ∙ rw (← f) o.counts))
          ∙ none
      got k l own none true e = some (left os k) refl
        where
          some : (m : ℕ) → left os k ≡ m → pieces_of after k ≡ min (left os k) (total - ahead h a os k)
          some zero f =
              so.rest k
              (λ j b q.
              let o = g.standing.order j (omega (arith, so.so_far.within)) in
              let more : 0 < left os k = rw (← q) o.some in
              omega arith)
              ∙ omega (arith, none)
          some (suc m) f = let p = g.standing.place k l own e (omega arith) in place p (dec_le i p.number)
            where
              place : (p : Found (λ j. number_in (item queue j)) (length queue) k) → Dec (i ≤ p.number) → pieces_of after k ≡ min (left os k) (total - ahead h a os k)
              place p d =
                  let begin : ahead h a os k ≡ up_to queue p.number =
                  ap (ahead h a os) (sym p.is) ∙ (g.standing.order p.number p.below).begin in
                  go begin d
                where
                  go : ahead h a os k ≡ up_to queue p.number → Dec (i ≤ p.number)
                      → pieces_of after k ≡ min (left os k) (total - ahead h a os k)
                  go begin (yes far) =
                      so.rest k
                      (λ j b q. let same = once g j p.number (omega (arith, so.so_far.within)) p.below (q ∙ sym p.is) in omega arith)
                      ∙ omega (arith, none, used p.number far p.below)
                  go begin (no near) =
                      ap (pieces_of after) (sym p.is) ∙ so.done h a os s g p.number (omega (arith, near))
                      ∙ omega (arith, begin, ap (left os) p.is)

  -- the total is used up, or the queue ends
  pub handed_enough : total ≤ upto → (h : Heading) (a : Auction) (os : List Standing) (s : Side) → Given h a os s queue
      → HandedTo h a os s total before after
  handed_enough used =
      handed_all (λ j from to. omega (arith, so.so_far.is, sum_longer (λ k. amount_in (item queue k)) i j from))

  pub handed_end : length queue ≤ i → (h : Heading) (a : Auction) (os : List Standing) (s : Side) → Given h a os s queue
      → HandedTo h a os s total before after
  handed_end end = handed_all (λ j from to. absurd (omega arith))
