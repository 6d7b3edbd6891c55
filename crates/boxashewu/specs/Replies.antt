-- Clause 10.7 of docs/RULES.md: what the library hands to a program in C or in Rust, the answer of a call as a record
-- of plain numbers.
use Rattle.std.specs.Prelude.{[], ℕ, length, get_or, Some, None}
use Rattle.std.specs.declared.option.Option.{Option}
use Rattle.rules.specs.Answers.{Answer, gives, refuses, refused}
use Rattle.rules.specs.Calls.{words_given}
use Rattle.rules.specs.Stored.{StoredAnswer, answers, differs}
use Rattle.rules.specs.declared.Refusal.{Refusal}
use Rattle.boxashewu.specs.declared.clock.WaitingReply.{WaitingReply}
use Rattle.boxashewu.specs.declared.replies.BandReply.{BandReply}
use Rattle.boxashewu.specs.declared.replies.CurvesReply.{CurvesReply}
use Rattle.boxashewu.specs.declared.replies.PriceReply.{PriceReply}
use Rattle.boxashewu.specs.declared.replies.SheetReply.{SheetReply}
use Rattle.boxashewu.specs.declared.replies.SpaceReply.{SpaceReply}
use Rattle.boxashewu.specs.declared.stored_replies.RoundReply.{RoundReply}
use Rattle.boxashewu.specs.declared.stored_replies.StoredReply.{StoredReply}

-- [10.7] The number of the refusal. Where the call answers it is 0, which no refusal has.
abbrev pub refusal_in : Answer → ℕ
refusal_in (gives vs) = 0
refusal_in (refuses number place) = number

-- [10.7] The place of the refusal, the order or the word at fault; 0 where the call answers.
abbrev pub place_in : Answer → ℕ
place_in (gives vs) = 0
place_in (refuses number place) = place

-- [10.7] Both of a refusal, or of none.
abbrev pub fault_of : Option Refusal → ℕ × ℕ
fault_of None = (0, 0)
fault_of (Some r) = (refusal_in (refused r), place_in (refused r))

-- [10.7] The number that an answer gives at place i; 0 where it gives none there.
abbrev pub given_at : Answer → ℕ → ℕ
given_at a i = get_or (words_given a) i 0

-- [10.7] A sheet that is checked.
abbrev pub sheet_reply : Answer → SheetReply
sheet_reply a = record { refusal = refusal_in a; order = place_in a }

-- [10.7] A price.
abbrev pub price_reply : Answer → PriceReply
price_reply a = record { refusal = refusal_in a; order = place_in a; price = given_at a 0 }

-- [10.7] Demand, supply and volume.
abbrev pub curves_reply : Answer → CurvesReply
curves_reply a =
    record { refusal = refusal_in a; order = place_in a; demand = given_at a 0; supply = given_at a 1; volume = given_at a 2 }

-- [10.7] How many words are given; they stand in the lent space.
abbrev pub space_reply : Answer → SpaceReply
space_reply a = record { refusal = refusal_in a; order = place_in a; count = length (words_given a) }

-- [10.7] The lower bound, then the upper.
abbrev pub band_reply : Answer → BandReply
band_reply a = record { refusal = refusal_in a; order = place_in a; lower = given_at a 0; upper = given_at a 1 }

-- [10.7] The phase with its start and its side, the lower bound, the upper, and the openings due.
abbrev pub waiting_reply : Answer → WaitingReply
waiting_reply a = record {
  refusal = refusal_in a;
  place = place_in a;
  phase = given_at a 0;
  start = given_at a 1;
  side = given_at a 2;
  lower = given_at a 3;
  upper = given_at a 4;
  due = given_at a 5;
}

-- [10.7] What a call on a stored result answers as any call does; where the stored words differ it gives nothing.
abbrev pub answer_in : StoredAnswer → Answer
answer_in (answers a) = a
answer_in (differs place) = gives []

-- [10.7] 1 where the stored words differ, else 0.
abbrev pub different_in : StoredAnswer → ℕ
different_in (answers a) = 0
different_in (differs place) = 1

-- [10.7] The place of the first difference; 0 where there is none.
abbrev pub difference_in : StoredAnswer → ℕ
difference_in (answers a) = 0
difference_in (differs place) = place

-- [10.7] Whether a stored result opens.
abbrev pub stored_reply : StoredAnswer → StoredReply
stored_reply a = record {
  refusal = refusal_in (answer_in a);
  order = place_in (answer_in a);
  different = different_in a;
  place = difference_in a;
}

-- [10.7] A round of a stored result: situation, auction price, purchase price and total, then the place of its first fill word
-- in the stored list and the number of its fill words.
abbrev pub round_reply : StoredAnswer → RoundReply
round_reply a = record {
  refusal = refusal_in (answer_in a);
  order = place_in (answer_in a);
  different = different_in a;
  place = difference_in a;
  situation = given_at (answer_in a) 0;
  price = given_at (answer_in a) 1;
  purchase = given_at (answer_in a) 2;
  total = given_at (answer_in a) 3;
  fills = given_at (answer_in a) 4;
  count = given_at (answer_in a) 5;
}

-- [10.7] A record that tells of no round, beside what is said of the whole result.
abbrev pub no_round : StoredReply → RoundReply
no_round s = record {
  refusal = s.refusal;
  order = s.order;
  different = s.different;
  place = s.place;
  situation = 0;
  price = 0;
  purchase = 0;
  total = 0;
  fills = 0;
  count = 0;
}
