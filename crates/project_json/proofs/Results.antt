-- What the reader gives, said by the grammar and by the faults.
use Rattle.std.proofs.Common.{◌≡◌, ℕ, ◌≤◌, ◌+◌, ◌-◌, ⊎_elim, List, length, Ok, Err, refl, sym, ap, ◌∙◌, arith}
use Rattle.std.specs.Str.{IsUtf8}
use Rattle.std.proofs.lemmas.Str.{utf8_valid_len-IsValidUpTo}
use Rattle.project_json.specs.Tree.{Tree}
use Rattle.project_json.specs.Grammar.{IsJson}
use Rattle.project_json.specs.Size.{size_of}
use Rattle.project_json.specs.Reading.{Fault, syntax, too_deep, text_of}
use Rattle.project_json.specs.Text.{IsText}
use Rattle.project_json.specs.Refusal.{IsFault, IsOrNoMemory, TextOrFault, is_text, has_fault}
use Rattle.project_json.specs.declared.refusal.JsonRefusal.{JsonRefusal}
use Rattle.project_json.specs.declared.refusal.JsonRefusal.TheVariants.{NotUtf8, Syntax, TooDeep, NoMemory}
use Rattle.project_json.proofs.Sound.{text_is}
use Rattle.project_json.proofs.Sizes.{IsJson-size}
use Rattle.project_json.proofs.Complete.{text_again}
use Rattle.project_json.proofs.Deeper.{spaced-deeper}
use Rattle.project_json.proofs.IllFormed.{utf8_or, valid_up_to}
use Rattle.project_json.proofs.Places.{one_syntax, one_deep, not_both, deep_no_text, syntax_place, deep_place}

pub read_tree : (n : ℕ) (bs : List ℕ) (t u : Tree) → text_of n bs ≡ Ok t → IsJson n bs u → t ≡ u
read_tree n bs t u h p = let a = text_again n bs u p in cc

pub read_size : (n : ℕ) (bs : List ℕ) (t : Tree) → text_of n bs ≡ Ok t → size_of t ≤ length bs
read_size n bs t h = IsJson-size n bs t (text_is n bs t h)

pub no_tree : (n : ℕ) (bs : List ℕ) (f : Fault) (t : Tree) → text_of n bs ≡ Err f → IsJson n bs t → ⊥
no_tree n bs f t h p = let a = text_again n bs t p in cc

-- a text has no fault
pub text_no_fault : (n : ℕ) (bs : List ℕ) (t : Tree) (r : JsonRefusal) → IsText n bs t → IsFault n bs r → ⊥
text_no_fault n bs t (NotUtf8 at) p f = f.ill_formed p.0
text_no_fault n bs t (Syntax at) p f = f.no_text n t p
text_no_fault n bs t (TooDeep at) p f = deep_no_text n bs at t f p
text_no_fault n bs t NoMemory p f = f

-- bytes have one fault at most
pub same_fault : (n : ℕ) (bs : List ℕ) (r s : JsonRefusal) → IsFault n bs r → IsFault n bs s → r ≡ s
same_fault n bs (NotUtf8 a) (NotUtf8 b) f g = ap (λ k. NotUtf8 k) (sym (utf8_valid_len-IsValidUpTo bs a f.valid) ∙ utf8_valid_len-IsValidUpTo bs b g.valid)
same_fault n bs (NotUtf8 a) (Syntax b) f g = absurd (f.ill_formed g.utf8)
same_fault n bs (NotUtf8 a) (TooDeep b) f g = absurd (f.ill_formed g.utf8)
same_fault n bs (NotUtf8 a) NoMemory f g = absurd g
same_fault n bs (Syntax a) (NotUtf8 b) f g = absurd (g.ill_formed f.utf8)
same_fault n bs (Syntax a) (Syntax b) f g = ap (λ k. Syntax k) (one_syntax n bs a b f g)
same_fault n bs (Syntax a) (TooDeep b) f g = absurd (not_both n bs a b f g)
same_fault n bs (Syntax a) NoMemory f g = absurd g
same_fault n bs (TooDeep a) (NotUtf8 b) f g = absurd (g.ill_formed f.utf8)
same_fault n bs (TooDeep a) (Syntax b) f g = absurd (not_both n bs b a g f)
same_fault n bs (TooDeep a) (TooDeep b) f g = ap (λ k. TooDeep k) (one_deep n bs a b f g)
same_fault n bs (TooDeep a) NoMemory f g = absurd g
same_fault n bs NoMemory s f g = absurd f

-- a refusal for a fault is the refusal for each fault that the bytes have
pub told_syntax : (n : ℕ) (bs : List ℕ) (at : ℕ) (r : JsonRefusal) → IsFault n bs (Syntax at) → IsFault n bs r → IsOrNoMemory r (Syntax at)
told_syntax n bs at r f g = same_fault n bs (Syntax at) r f g

pub told_deep : (n : ℕ) (bs : List ℕ) (at : ℕ) (r : JsonRefusal) → IsFault n bs (TooDeep at) → IsFault n bs r → IsOrNoMemory r (TooDeep at)
told_deep n bs at r f g = same_fault n bs (TooDeep at) r f g

pub told_utf8 : (n : ℕ) (bs : List ℕ) (at : ℕ) (r : JsonRefusal) → IsFault n bs (NotUtf8 at) → IsFault n bs r → IsOrNoMemory r (NotUtf8 at)
told_utf8 n bs at r f g = same_fault n bs (NotUtf8 at) r f g

pub json_one_tree : (m n : ℕ) (bs : List ℕ) (t u : Tree) → IsJson m bs t → IsJson n bs u → t ≡ u
json_one_tree m n bs t u p q =
    let a = text_again (m + n) bs t (spaced-deeper p (m + n) (omega arith)) in
    let b = text_again (m + n) bs u (spaced-deeper q (m + n) (omega arith)) in
    cc

utf8_text_or_fault : (n : ℕ) (bs : List ℕ) → IsUtf8 bs → TextOrFault n bs
utf8_text_or_fault n bs u =
    elim (text_of n bs) as (λ r. text_of n bs ≡ r → TextOrFault n bs) [
      | Ok t ↦ λ e. is_text t (u, text_is n bs t e)
      | Err f ↦ elim f as (λ g. text_of n bs ≡ Err g → TextOrFault n bs) [
        | syntax left ↦ λ e. let p = syntax_place n bs left u e in has_fault (Syntax (length bs - left)) p.1
        | too_deep left ↦ λ e. let p = deep_place n bs left u e in has_fault (TooDeep (length bs - left)) p.1
      ]
    ] refl

pub bytes_text_or_fault : (n : ℕ) (bs : List ℕ) → TextOrFault n bs
bytes_text_or_fault n bs =
    ⊎_elim
    (λ (u : IsUtf8 bs). utf8_text_or_fault n bs u)
    (λ (no : IsUtf8 bs → ⊥). let v = valid_up_to bs no in has_fault (NotUtf8 v.0) (record { ill_formed = no; valid = v.1 }))
    (utf8_or bs)
