-- Lists of items and members, a step further, and the whole text.
use Rattle.std.proofs.Common.{◌≡◌, ℕ, zero, suc, ◌-◌, ◌<◌, Bool, true, false, cond, ◌==◌, List, [], ◌∷◌, ◌++◌, length, Ok, Err, refl, sym, ap, ◌∙◌, arith, append_assoc}
use Rattle.project_json.specs.Tree.{Tree}
use Rattle.project_json.specs.Reading.{Fault, syntax, too_deep, Fails, text_of, end_of, Read, items_at, items_then, item_at, member_at, members_at, members_then, with_items, value_at, value_with, list_at, object_at, list_of, object_of, opened_of, opened_at, list_below, object_below, skip, ◌>>=◌}
use Rattle.project_json.specs.Grammar.{put}
use Rattle.project_json.specs.declared.stop.Stop.{Stop}
use Rattle.project_json.specs.declared.stop.Stop.TheVariants as stop

pub value_at-is : (n : ℕ) (bs : List ℕ) → value_with (list_below n) (object_below n) bs ≡ value_at n bs
unfolding value_at
value_at-is zero bs = refl
value_at-is (suc n) bs = refl

list_of-is : (value : List ℕ → Read Tree) (bs : List ℕ) → list_of value bs ≡ opened_of 93 bs >>= (λ x. cond x.0 (Ok ([], x.1)) (items_at value (length x.1) x.1))
list_of-is value [] = refl
list_of-is value (b ∷ bs) = by (b == 93)
  where
    by : (t : Bool) → let read : Read Bool = cond t (Ok (true, bs)) (Ok (false, b ∷ bs)) in cond t (Ok ([], bs)) (items_at value (length (b ∷ bs)) (b ∷ bs)) ≡ read >>= (λ x. cond x.0 (Ok ([], x.1)) (items_at value (length x.1) x.1))
    by true = refl
    by false = refl

object_of-is : (value : List ℕ → Read Tree) (bs : List ℕ) → object_of value bs ≡ opened_of 125 bs >>= (λ x. cond x.0 (Ok ([], x.1)) (members_at value (length x.1) [] x.1))
object_of-is value [] = refl
object_of-is value (b ∷ bs) = by (b == 125)
  where
    by : (t : Bool) → let read : Read Bool = cond t (Ok (true, bs)) (Ok (false, b ∷ bs)) in cond t (Ok ([], bs)) (members_at value (length (b ∷ bs)) [] (b ∷ bs)) ≡ read >>= (λ x. cond x.0 (Ok ([], x.1)) (members_at value (length x.1) [] x.1))
    by true = refl
    by false = refl

pub list_below-is : (n : ℕ) (bs : List ℕ) → list_below n bs ≡ opened_at n 93 bs >>= (λ x. cond x.0 (Ok ([], x.1)) (items_at (value_at (n - 1)) (length x.1) x.1))
list_below-is zero bs = refl
list_below-is (suc n) bs = let e : n ≡ suc n - 1 = omega arith in ap (λ k. list_at (value_at k) bs) e ∙ list_of-is (value_at (suc n - 1)) (skip bs)

pub object_below-is : (n : ℕ) (bs : List ℕ) → object_below n bs ≡ opened_at n 125 bs >>= (λ x. cond x.0 (Ok ([], x.1)) (members_at (value_at (n - 1)) (length x.1) [] x.1))
object_below-is zero bs = refl
object_below-is (suc n) bs = let e : n ≡ suc n - 1 = omega arith in ap (λ k. object_at (value_at k) bs) e ∙ object_of-is (value_at (suc n - 1)) (skip bs)

pub opened_at-is : (n close : ℕ) (bs : List ℕ) → 0 < n → opened_at n close bs ≡ opened_of close (skip bs)
opened_at-is zero close bs h = absurd (omega arith)
opened_at-is (suc n) close bs h = refl

pub ruleset depth_rules = (value_at-is, list_below-is, object_below-is)

pub ruleset opened_rules = (opened_at-is)

pub with_items-nil : (read : Read (List Tree)) → with_items [] read ≡ read
with_items-nil (Ok x) = refl
with_items-nil (Err e) = refl

with_items-append : (xs ys : List Tree) (read : Read (List Tree)) → with_items (xs ++ ys) read ≡ with_items xs (with_items ys read)
with_items-append xs ys (Ok x) = ap (λ (zs : List Tree). Ok (zs, x.1)) (append_assoc xs ys x.0)
with_items-append xs ys (Err e) = refl

items_turn : (value : List ℕ → Read Tree) (n k : ℕ) (bs : List ℕ) → k ≡ suc n → items_at value k bs ≡ item_at value bs >>= items_then (items_at value n)
unfolding items_at
items_turn value n k bs e = ap (λ j. items_at value j bs) e

-- after the items in front, an item with a comma behind it
pub items_go_on : (value : List ℕ → Read Tree) (front : List Tree) (n k : ℕ) (bs : List ℕ) (t : Tree) (rest : List ℕ) → k ≡ suc n → item_at value bs ≡ Ok ((t, true), rest) → with_items (front ++ t ∷ []) (items_at value n rest) ≡ with_items front (items_at value k bs)
items_go_on value front n k bs t rest e h =
    with_items-append front (t ∷ []) (items_at value n rest) ∙ ap (with_items front) (sym (items_turn value n k bs e ∙ ap (λ r. r >>= items_then (items_at value n)) h))

-- after the items in front, the last one
pub items_end : (value : List ℕ → Read Tree) (front : List Tree) (n k : ℕ) (bs : List ℕ) (t : Tree) (rest : List ℕ) → k ≡ suc n → item_at value bs ≡ Ok ((t, false), rest) → with_items front (items_at value k bs) ≡ Ok (front ++ t ∷ [], rest)
items_end value front n k bs t rest e h = ap (with_items front) (items_turn value n k bs e ∙ ap (λ r. r >>= items_then (items_at value n)) h)

pub items_fail : (value : List ℕ → Read Tree) (front : List Tree) (n k : ℕ) (bs : List ℕ) (f : Fault) → k ≡ suc n → item_at value bs ≡ Err f → with_items front (items_at value k bs) ≡ Err f
items_fail value front n k bs f e h = ap (with_items front) (items_turn value n k bs e ∙ ap (λ r. r >>= items_then (items_at value n)) h)

-- no turn is left
pub items_over : (value : List ℕ → Read Tree) (front : List Tree) (k : ℕ) (bs : List ℕ) → k ≡ 0 → with_items front (items_at value k bs) ≡ Err (syntax (length bs))
unfolding items_at
items_over value front k bs e = ap (λ j. with_items front (items_at value j bs)) e

members_turn : (value : List ℕ → Read Tree) (n k : ℕ) (before : List (List ℕ × Tree)) (bs : List ℕ) → k ≡ suc n → members_at value k before bs ≡ member_at value bs >>= members_then (members_at value n) before
unfolding members_at
members_turn value n k before bs e = ap (λ j. members_at value j before bs) e

pub members_go_on : (value : List ℕ → Read Tree) (before : List (List ℕ × Tree)) (n k : ℕ) (bs : List ℕ) (name : List ℕ) (t : Tree) (rest : List ℕ) → k ≡ suc n → member_at value bs ≡ Ok (((name, t), true), rest) → members_at value n (put name t before) rest ≡ members_at value k before bs
members_go_on value before n k bs name t rest e h = sym (members_turn value n k before bs e ∙ ap (λ r. r >>= members_then (members_at value n) before) h)

pub members_end : (value : List ℕ → Read Tree) (before : List (List ℕ × Tree)) (n k : ℕ) (bs : List ℕ) (name : List ℕ) (t : Tree) (rest : List ℕ) → k ≡ suc n → member_at value bs ≡ Ok (((name, t), false), rest) → members_at value k before bs ≡ Ok (put name t before, rest)
members_end value before n k bs name t rest e h = members_turn value n k before bs e ∙ ap (λ r. r >>= members_then (members_at value n) before) h

pub members_fail : (value : List ℕ → Read Tree) (before : List (List ℕ × Tree)) (n k : ℕ) (bs : List ℕ) (f : Fault) → k ≡ suc n → member_at value bs ≡ Err f → members_at value k before bs ≡ Err f
members_fail value before n k bs f e h = members_turn value n k before bs e ∙ ap (λ r. r >>= members_then (members_at value n) before) h

pub members_over : (value : List ℕ → Read Tree) (before : List (List ℕ × Tree)) (k : ℕ) (bs : List ℕ) → k ≡ 0 → members_at value k before bs ≡ Err (syntax (length bs))
unfolding members_at
members_over value before k bs e = ap (λ j. members_at value j before bs) e

pub ruleset items_rules = (items_go_on, items_end, items_fail, items_over, with_items-nil)

pub ruleset members_rules = (members_go_on, members_end, members_fail, members_over)

-- a fault of an item is the fault of the list
pub items_stop : (e : Stop) (value : List ℕ → Read Tree) (front : List Tree) (n k : ℕ) (bs : List ℕ) (whole : Read (List Tree)) → k ≡ suc n → Fails e (item_at value bs) → with_items front (items_at value k bs) ≡ whole → Fails e whole
items_stop stop.NoMemory value front n k bs whole e h w = tt
items_stop (stop.Syntax left) value front n k bs whole e h w = sym w ∙ items_fail value front n k bs (syntax left) e h
items_stop (stop.TooDeep left) value front n k bs whole e h w = sym w ∙ items_fail value front n k bs (too_deep left) e h

-- a fault of a member is the fault of the object
pub members_stop : (e : Stop) (value : List ℕ → Read Tree) (before : List (List ℕ × Tree)) (n k : ℕ) (bs : List ℕ) (whole : Read (List (List ℕ × Tree))) → k ≡ suc n → Fails e (member_at value bs) → members_at value k before bs ≡ whole → Fails e whole
members_stop stop.NoMemory value before n k bs whole e h w = tt
members_stop (stop.Syntax left) value before n k bs whole e h w = sym w ∙ members_fail value before n k bs (syntax left) e h
members_stop (stop.TooDeep left) value before n k bs whole e h w = sym w ∙ members_fail value before n k bs (too_deep left) e h

-- a fault of the value is the fault of the text
pub text_stop : (e : Stop) (n : ℕ) (bs : List ℕ) → Fails e (value_at n (skip bs)) → Fails e (text_of n bs)
text_stop stop.NoMemory n bs h = tt
text_stop (stop.Syntax left) n bs h = ap (λ r. r >>= (λ x. end_of x.0 (skip x.1))) h
text_stop (stop.TooDeep left) n bs h = ap (λ r. r >>= (λ x. end_of x.0 (skip x.1))) h

pub text_goes_on : (n : ℕ) (bs : List ℕ) (t : Tree) (rest : List ℕ) → value_at n (skip bs) ≡ Ok (t, rest) → text_of n bs ≡ end_of t (skip rest)
text_goes_on n bs t rest h = ap (λ r. r >>= (λ x. end_of x.0 (skip x.1))) h

pub end_of-rest : (t : Tree) (bs : List ℕ) → 0 < length bs → end_of t bs ≡ Err (syntax (length bs))
end_of-rest t [] h = absurd (omega arith)
end_of-rest t (b ∷ bs) h = refl

pub end_of-none : (t : Tree) (bs : List ℕ) → length bs ≡ 0 → end_of t bs ≡ Ok t
end_of-none t [] h = refl
end_of-none t (b ∷ bs) h = absurd (omega arith)

pub ruleset text_rules = (value_at-is, text_goes_on, end_of-rest, end_of-none)
