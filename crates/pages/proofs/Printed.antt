-- What the opening program prints for an accepted sheet, the archive program opens beside it. The kinds that demand 3 gives the words of a
-- result keep them within 32 bits, so the printed lines are read back as these words, and what the opening writes opens.
use mathlib.Core.Bool.{Bool, true, false, cond}
use mathlib.Core.List.{List}
use mathlib.Core.Path.{◌≡◌, ◌∙◌}
use Prim.Native.Nat.{ℕ, zero, suc, ◌+◌, ◌-◌, ◌*◌, ◌/◌, ◌%◌, ◌≤◌, ◌<◌}
use native.Mathlib.Decide.{dec_le}
use native.Mathlib.Nat.{mul_comm, div-add-mod, mod-lt, div-lt_iff_lt-mul}
use native.Mathlib.Omega.{arith}
use lib.Dec.{eqb}
use lib.ListN.{length, get_or}
use Rattle.claims.proofs.CallsHold.{opening_given, most_asked}
use Rattle.claims.proofs.Demand3Holds.{demand3_holds, result_fits}
use Rattle.claims.proofs.StoredHold.{opens_exactly}
use Rattle.claims.specs.Demand3.{Demand3}
use Rattle.rules.proofs.Accepted.{accepted_sound}
use Rattle.rules.proofs.Downwards.{given_clear}
use Rattle.rules.specs.AuctionPrice.{in_band}
use Rattle.rules.specs.Answers.{gives}
use Rattle.rules.specs.Listing.{input_fits, sheet_in, word_lines, printed_answer, printed}
use Rattle.rules.specs.Opening.{Round, ending_after, opening_words}
use Rattle.rules.specs.Pages.{opened_text, archived}
use Rattle.rules.specs.Result.{count, rounds_in, word_place, round_said}
use Rattle.rules.specs.Sheet.{heading_of, sheet_checks, check_sheet, AcceptedSheet}
use Rattle.rules.specs.declared.Heading.{Heading}
use Rattle.text.proofs.Program.{input_accepted}
use Rattle.text.proofs.ReadsBack.{ReadBack, lines_read}
use Rattle.pages.proofs.Archiving.{bytes_accepted}

-- ---- The words of a result have 32 bits

kind_small : (w kind : ℕ) → kind < 16 → w / 0x1000_0000 ≡ kind → w < 0x1_0000_0000
kind_small w kind few e = omega (arith, e)

ending_small : (h : Heading) (x : Round) → ending_after h x ≤ 2
unfolding ending_after
ending_small h x = go (eqb x.situation 0) (in_band h x.price)
  where
    go : (a b : Bool) → cond a (cond b 1 2) 0 ≤ 2
    go true true = omega arith
    go true false = omega arith
    go false b = omega arith

module _ (ws rs : List ℕ) (claim : Demand3 ws rs) (few : count ws ≤ 120) where
  -- word j of a round
  round_small : (r j : ℕ) → r < rounds_in ws rs → j < count ws + 4 → get_or rs (word_place ws r j) 0 < 0x1_0000_0000
  round_small r zero there l = kind_small _ 10 (omega arith) (claim.kinds r there).situation
  round_small r (suc zero) there l = kind_small _ 11 (omega arith) (claim.kinds r there).price
  round_small r (suc (suc zero)) there l = kind_small _ 12 (omega arith) (claim.kinds r there).purchase
  round_small r (suc (suc (suc zero))) there l = kind_small _ 13 (omega arith) (claim.kinds r there).total
  round_small r (suc (suc (suc (suc k)))) there l =
      let fifth : 4 + k ≡ suc (suc (suc (suc k))) = omega arith in
      rw (← fifth) (kind_small _ 14 (omega arith) ((claim.kinds r there).fills k (omega arith)))

  words_small : (k : ℕ) → k < length rs → get_or rs k 0 < 0x1_0000_0000
  words_small k own = go (dec_le (suc k) (rounds_in ws rs * (count ws + 4)))
    where
      go : Dec (suc k ≤ rounds_in ws rs * (count ws + 4)) → get_or rs k 0 < 0x1_0000_0000
      go (yes inside) =
          let n : ℕ = count ws + 4 in
          let there : k / n < rounds_in ws rs = (div-lt_iff_lt-mul {k = n} {x = k} {y = rounds_in ws rs} (omega arith)).1 inside in
          let place : k / n * n + k % n ≡ k = rw (mul_comm (k / n) n) (div-add-mod k n) in
          rw place at (round_small (k / n) (k % n) there (mod-lt k {m = n} (omega arith)))
      go (no last) =
          let end : k ≡ rounds_in ws rs * (count ws + 4) = omega (arith, last, claim.size) in
          rw (end, claim.last) (omega (arith, claim.most, ending_small (heading_of ws) (round_said ws rs (rounds_in ws rs - 1))))

-- ---- The two programs

module _ (bytes : List ℕ) (fits : input_fits bytes ≡ true) (accepted : AcceptedSheet (sheet_in bytes)) where
  abbrev ws : List ℕ
  ws = sheet_in bytes

  text_printed : printed bytes ≡ word_lines (opening_words ws)
  unfolding printed_answer check_sheet
  text_printed = rw (input_accepted bytes fits, (given_clear (sheet_checks ws) (gives _) accepted).hands_on (gives (opening_words ws)))

  read_back : ReadBack (opening_words ws)
  read_back =
      let few : count ws ≤ 120 = (accepted_sound ws accepted).heading.count in
      lines_read (opening_words ws) (words_small ws (opening_words ws) (demand3_holds ws accepted) few)
      (omega (arith, result_fits ws accepted, most_asked ws accepted))

  pub printed_opens : archived bytes (printed bytes) ≡ opened_text ws (opening_words ws)
  printed_opens =
      let opens = (opens_exactly ws (opening_words ws)).opened 15005 (opening_given ws accepted (most_asked ws accepted)) in
      bytes_accepted bytes (printed bytes) fits ∙ rw (text_printed, accepted, read_back.fits, read_back.read, opens)
