-- Laws of checks that run downwards: two tables one after the other, a table in which nothing arises, and one that stops.
-- What a table does to one answer it does to every other: it hands each on, or refuses with the same numbers.
use mathlib.Core.Bool.{Bool, true, false, cond}
use mathlib.Core.List.{List, [], ◌∷◌, ◌++◌}
use mathlib.Core.Path.{◌≡◌, refl, sym, ◌∙◌}
use Prim.Native.Nat.{ℕ}
use native.Mathlib.Omega.{arith}
use Rattle.rules.specs.Answers.{Answer, gives, refuses, Check, downwards, verdict}

-- a table hands every answer on
pub record Clear (cs : List Check) : Type 0 where
  pub hands_on : (a : Answer) → downwards cs a ≡ a

-- a table refuses with these numbers, whatever the answer would be
pub record Stops (cs : List Check) (number place : ℕ) : Type 0 where
  pub refuses_all : (a : Answer) → downwards cs a ≡ refuses number place

-- building a table's fate row by row
pub here : {c : Check} {cs : List Check} → c.arises ≡ true → Stops (c ∷ cs) c.number c.place
unfolding downwards
here e = record { refuses_all = λ a. rw e }

pub there : {c : Check} {cs : List Check} {n k : ℕ} → c.arises ≡ false → Stops cs n k → Stops (c ∷ cs) n k
unfolding downwards
there e p = record { refuses_all = λ a. rw e (p.refuses_all a) }

pub nothing_left : Clear []
unfolding downwards
nothing_left = record { hands_on = λ a. refl }

pub passed : {c : Check} {cs : List Check} → c.arises ≡ false → Clear cs → Clear (c ∷ cs)
unfolding downwards
passed e p = record { hands_on = λ a. rw e (p.hands_on a) }

-- two tables, one after the other
pub downwards_append : (cs ds : List Check) (a : Answer) → downwards (cs ++ ds) a ≡ downwards cs (downwards ds a)
unfolding downwards
downwards_append [] ds a = refl
downwards_append (c ∷ cs) ds a = rw (downwards_append cs ds a)

pub clear_append : {cs ds : List Check} → Clear cs → Clear ds → Clear (cs ++ ds)
clear_append {cs} {ds} p q =
    record { hands_on = λ a. rw (downwards_append cs ds a, q.hands_on a) (p.hands_on a) }

pub stops_first : {cs : List Check} (ds : List Check) {n k : ℕ} → Stops cs n k → Stops (cs ++ ds) n k
stops_first {cs} ds p =
    record { refuses_all = λ a. rw (downwards_append cs ds a) (p.refuses_all (downwards ds a)) }

pub stops_after : {cs ds : List Check} {n k : ℕ} → Clear cs → Stops ds n k → Stops (cs ++ ds) n k
stops_after {cs} {ds} {n} {k} p q =
    record { refuses_all = λ a. rw (downwards_append cs ds a, q.refuses_all a) (p.hands_on (refuses n k)) }

-- what such tables say alone
pub says_nothing : (cs : List Check) → Clear cs → verdict cs ≡ gives []
says_nothing cs p = p.hands_on (gives [])

pub says_refused : (cs : List Check) {n k : ℕ} → Stops cs n k → verdict cs ≡ refuses n k
says_refused cs p = p.refuses_all (gives [])

-- where something was given, nothing arose
pub given_clear : (cs : List Check) (b : Answer) {ws : List ℕ} → downwards cs b ≡ gives ws → Clear cs
unfolding downwards
given_clear [] b e = nothing_left
given_clear (c ∷ cs) b {ws} e = record { hands_on = go c.arises e (given_clear cs b) }
  where
    go : (t : Bool) → cond t (refuses c.number c.place) (downwards cs b) ≡ gives ws
        → (downwards cs b ≡ gives ws → Clear cs)
        → (a : Answer) → cond t (refuses c.number c.place) (downwards cs a) ≡ a
    go true e rest a = let z : ◌≡◌ {A = ℕ} 0 1 = cc in absurd (omega arith)
    go false e rest a = (rest e).hands_on a

-- where something was refused, the table stops with it
pub refused_stops : (cs : List Check) (vs : List ℕ) {n k : ℕ} → downwards cs (gives vs) ≡ refuses n k → Stops cs n k
unfolding downwards
refused_stops [] vs e = let z : ◌≡◌ {A = ℕ} 0 1 = cc in absurd (omega arith)
refused_stops (c ∷ cs) vs {n} {k} e = record { refuses_all = go c.arises e (refused_stops cs vs) }
  where
    go : (t : Bool) → cond t (refuses c.number c.place) (downwards cs (gives vs)) ≡ refuses n k
        → (downwards cs (gives vs) ≡ refuses n k → Stops cs n k)
        → (a : Answer) → cond t (refuses c.number c.place) (downwards cs a) ≡ refuses n k
    go true e rest a = e
    go false e rest a = (rest e).refuses_all a

-- a last row that does not arise where those before it are passed
pub last_row : (cs : List Check) (last : Check) (vs : List ℕ) → (Clear cs → last.arises ≡ false)
    → downwards (cs ++ (last ∷ [])) (gives vs) ≡ downwards cs (gives vs)
unfolding downwards
last_row cs last vs passes = downwards_append cs (last ∷ []) (gives vs) ∙ go (downwards cs (gives [])) refl
  where
    go : (a : Answer) → downwards cs (gives []) ≡ a → downwards cs (downwards (last ∷ []) (gives vs)) ≡ downwards cs (gives vs)
    go (gives ws) e = rw (passes (given_clear cs (gives []) e))
    go (refuses n k) e = let stops : Stops cs n k = refused_stops cs [] e in stops.refuses_all _ ∙ sym (stops.refuses_all (gives vs))

module _ (c : Check) (cs : List Check) (p : Clear (c ∷ cs)) where
  -- the first row does not arise
  pub clear_row : c.arises ≡ false
  unfolding downwards
  clear_row = go c.arises (p.hands_on (gives []))
    where
      go : (t : Bool) → cond t (refuses c.number c.place) (downwards cs (gives [])) ≡ gives [] → t ≡ false
      go true e = let z : ◌≡◌ {A = ℕ} 0 1 = cc in absurd (omega arith)
      go false e = refl

  pub clear_rest : Clear cs
  unfolding downwards
  clear_rest = record { hands_on = λ a. go c.arises clear_row a (p.hands_on a) }
    where
      go : (t : Bool) → t ≡ false → (a : Answer)
          → cond t (refuses c.number c.place) (downwards cs a) ≡ a → downwards cs a ≡ a
      go true e a q = let z : ◌≡◌ {A = ℕ} 0 1 = cc in absurd (omega arith)
      go false e a q = q

pub clear_left : (cs ds : List Check) → Clear (cs ++ ds) → Clear cs
clear_left [] ds p = nothing_left
clear_left (c ∷ cs) ds p = passed (clear_row c (cs ++ ds) p) (clear_left cs ds (clear_rest c (cs ++ ds) p))

pub clear_right : (cs ds : List Check) → Clear (cs ++ ds) → Clear ds
clear_right [] ds p = p
clear_right (c ∷ cs) ds p = clear_right cs ds (clear_rest c (cs ++ ds) p)
