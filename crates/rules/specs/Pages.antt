-- Clauses 11.6–11.11 of docs/RULES.md: what the archive program prints for the bytes of a sheet and the text of a stored result.
use Rattle.std.specs.Prelude.{Bool, ◌&&◌, not, cond, List, [], ◌∷◌, ◌++◌, ℕ, ◌+◌, ◌-◌, ◌*◌, ◌/◌, ◌%◌, leb, ltb, eqb, length, get_or}
use Rattle.rules.specs.Answers.{Answer, gives, refuses, row, verdict}
use Rattle.rules.specs.Fills.{fill_of}
use Rattle.rules.specs.Limits.{filed}
use Rattle.rules.specs.Listing.{input_fits, sheet_in, ascii, figures, refusal_line, InFront}
use Rattle.rules.specs.Lists.{listed, every_to, joined_to}
use Rattle.rules.specs.Opening.{Round}
use Rattle.rules.specs.Result.{count, rounds_in, word_place, round_said}
use Rattle.rules.specs.Sheet.{D, H, heading_of, orders_of, sheet_checks}
use Rattle.rules.specs.Stored.{StoredAnswer, answers, differs, open_stored, stored_answer}
use Rattle.rules.specs.Words.{word_at}
use Rattle.rules.specs.declared.Heading.{Heading}
use Rattle.rules.specs.declared.Side.{Side}
use Rattle.rules.specs.declared.Side.TheVariants.{Buy, Sell}

-- ---- The stored result, from its text

-- [11.6] The value of a hexadecimal digit, by its code: 0 to 9, or a to f; 16 for any other byte.
unfoldable pub digit_value : ℕ → ℕ
digit_value byte =
    cond (leb 48 byte && leb byte 57) (byte - 48) (cond (leb 97 byte && leb byte 102) (byte - 87) 16)

-- [11.6] Digit j of line i: a line has nine bytes.
abbrev pub digit_on : List ℕ → ℕ → ℕ → ℕ
digit_on text i j = digit_value (get_or text (9 * i + j) 0)

-- [11.6] A line is eight digits and a newline, whose code is 10.
unfoldable pub line_fits : List ℕ → ℕ → Bool
line_fits text i = every_to (λ j. ltb (digit_on text i j) 16) 8 && eqb (get_or text (9 * i + 8) 0) 10

-- [11.6] The most bytes of a result: 15,005 lines.
abbrev pub most_listed : ℕ
most_listed = 135045

-- [11.6] Whole lines, each a word's, and not too many.
unfoldable pub listing_fits : List ℕ → Bool
listing_fits text = eqb (length text % 9) 0 && leb (length text) most_listed && every_to (line_fits text) (length text / 9)

-- [11.6] The word of line i: its digits, the highest first.
unfoldable pub word_on : List ℕ → ℕ → ℕ
word_on text i =
    digit_on text i 0 * 0x1000_0000
    + digit_on text i 1 * 0x100_0000
    + digit_on text i 2 * 0x10_0000
    + digit_on text i 3 * 0x1_0000
    + digit_on text i 4 * 0x1000
    + digit_on text i 5 * 0x100
    + digit_on text i 6 * 0x10
    + digit_on text i 7

-- [11.6] The words of the lines.
unfoldable pub result_in : List ℕ → List ℕ
result_in text = listed (word_on text) (length text / 9)

-- ---- The text of a round

-- [11.7] A price: in tens of hellers, and in crowns, of which ten hellers are a tenth.
unfoldable pub price_text : ℕ → List ℕ
price_text p = figures p ++ ascii ", or " ++ figures (p / 10) ++ ascii "." ++ figures (p % 10) ++ ascii "0 crowns.\n"

-- [11.7] The purchase price; there is none where nothing trades.
unfoldable pub purchase_text : ℕ → List ℕ
purchase_text p = ascii "Purchase price: " ++ cond (eqb p 0) (ascii "none.\n") (price_text p)

-- [11.7] What a situation is (5.10, 5.11).
unfoldable pub situation_means : ℕ → List ℕ
situation_means s =
    cond (eqb s 0) (ascii ": demand and supply meet at some price.\n")
    (cond (eqb s 1) (ascii ": the band has supply alone.\n")
    (cond (eqb s 2) (ascii ": the band has demand alone.\n")
    (cond (eqb s 3) (ascii ": the band has demand and supply, but at no price both.\n") (ascii ": the band has neither demand nor supply.\n"))))

-- [11.8] What an order of a side does.
abbrev pub trades : Side → List ℕ
trades Buy = ascii " buys "
trades Sell = ascii " sells "

-- [11.8] The line of order k, of a side, for the pieces that it gets; none where it gets none.
unfoldable pub order_line : ℕ → Side → ℕ → List ℕ
order_line k side pieces =
    cond (eqb pieces 0) [] (ascii "Order " ++ figures k ++ trades side ++ figures pieces ++ ascii ".\n")

-- [11.8] The line of order k of the sheet ws in a round x.
unfoldable pub order_text : List ℕ → Round → ℕ → List ℕ
order_text ws x k = order_line k (filed (orders_of ws) k).side (fill_of x.fills k)

-- [11.8] Before the orders stand number, situation, prices and total of the round.
unfoldable pub summary_text : ℕ → Round → List ℕ
summary_text r x =
    ascii "\nRound " ++ figures r ++ ascii "\nSituation " ++ figures x.situation ++ situation_means x.situation
    ++ ascii "Auction price: " ++ price_text x.price
    ++ purchase_text x.purchase
    ++ ascii "Total: " ++ figures x.total ++ ascii ".\n"

-- [11.8] Round r of the result rs of the sheet ws.
unfoldable pub round_text : List ℕ → List ℕ → ℕ → List ℕ
round_text ws rs r = summary_text r (round_said ws rs r) ++ joined_to (order_text ws (round_said ws rs r)) (count ws)

-- ---- The text of a result

-- [11.9] The ending, as the last word says it.
abbrev pub ending_said : List ℕ → List ℕ → ℕ
ending_said ws rs = (word_at rs (word_place ws (rounds_in ws rs) 0)).value / 65536

-- [11.9] What an ending is (7.6).
unfoldable pub ending_means : ℕ → List ℕ
ending_means e =
    cond (eqb e 0) (ascii ": in the last round demand and supply met at no price.\n")
    (cond (eqb e 1) (ascii ": blocked. The last auction price was in the band, and nothing could be handed out.\n")
    (ascii ": waiting begins. The last auction price was outside the band.\n"))

-- [11.9] Before the rounds: how many orders and rounds there are, in what prices and pieces count, and the band.
unfoldable pub head_text : Heading → ℕ → List ℕ
head_text h rounds =
    ascii "The stored words are those that the opening of this sheet writes.\nOrders: " ++ figures h.count
    ++ ascii ". Rounds: " ++ figures rounds
    ++ ascii ". Both are numbered from 0.\nPrices count tens of hellers, and the band is from " ++ figures (D h)
    ++ ascii " to " ++ figures (H h)
    ++ ascii ".\nTotals, and what an order buys or sells, are pieces; an order that gets none in a round has no line there.\n"

-- [11.9] A result that opens, round by round, and how it ended.
unfoldable pub opened_text : List ℕ → List ℕ → List ℕ
opened_text ws rs =
    head_text (heading_of ws) (rounds_in ws rs)
    ++ joined_to (round_text ws rs) (rounds_in ws rs)
    ++ ascii "\nEnding " ++ figures (ending_said ws rs) ++ ending_means (ending_said ws rs)

-- [11.10] A result that differs: where, by words and by lines; a text that ends early has no such line.
unfoldable pub different_text : ℕ → List ℕ
different_text place =
    ascii "The stored words are not those that the opening of this sheet writes by the rules of this edition.\nThe first difference is at word "
    ++ figures place ++ ascii ", counted from 0: line " ++ figures (place + 1) ++ ascii " of the result, or its end.\n"

-- [11.10] A text that is no printed result.
abbrev pub no_listing : List ℕ
no_listing = ascii "The result is not as the opening program prints one: lines of eight digits, 0 to 9 or a to f, each ended by a newline, at most 15005.\n"

-- [11.10] The text of what is answered to opening the result rs beside the sheet ws.
abbrev pub stored_text : List ℕ → List ℕ → StoredAnswer → List ℕ
stored_text ws rs (answers (gives vs)) = opened_text ws rs
stored_text ws rs (answers (refuses number place)) = refusal_line number place
stored_text ws rs (differs place) = different_text place

-- ---- What the program prints

-- [11.11] Beside what is said of the sheet ws: its refusal comes first, then a text that is no printed result.
abbrev pub archived_beside : Answer → List ℕ → List ℕ → List ℕ
archived_beside (refuses number place) ws text = refusal_line number place
archived_beside (gives vs) ws text =
    cond (listing_fits text) (stored_text ws (result_in text) (stored_answer (open_stored ws (result_in text)))) no_listing

-- [11.11] For the bytes of a sheet and the text of a result.
unfoldable pub archived : List ℕ → List ℕ → List ℕ
archived bytes text = archived_beside (verdict (row 12 (not (input_fits bytes)) ∷ sheet_checks (sheet_in bytes))) (sheet_in bytes) text

-- [11.11] The program's text in front of a lent space.
abbrev pub Archived : (bytes text before after : List ℕ) → ℕ → Type 0
Archived bytes text before after count = InFront (archived bytes text) before after count
