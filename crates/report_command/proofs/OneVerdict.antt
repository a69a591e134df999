-- The bytes of a file have one verdict, and so a file that was fetched one ending.
use Rattle.std.proofs.Common.{◌≡◌, ℕ, zero, suc, ◌<◌, ◌≤◌, Bool, true, false, cond, ltb, List, [], ◌∷◌, length, Option, None, Some, refl, sym, ap, ◌∙◌, subst, arith, inr}
use Rattle.std.specs.Prelude.{slice_get, IfSome, IsSomeAnd}
use Rattle.std.specs.List.{AllZip}
use Rattle.std.specs.FinMap.{get}
use Rattle.std.proofs.lemmas.Bool.Decides.{nat_tests}
use Rattle.sv_channels.specs.Files.{Files}
use Rattle.project_json.specs.Tree.{Tree}
use Rattle.project_json.proofs.Results.{json_one_tree, text_no_fault, same_fault}
use Rattle.project_json.specs.Text.{max_depth}
use Rattle.project_spec.specs.declared.blocks.Block.{Block}
use Rattle.project_spec.specs.declared.refusals.Refusal.{Refusal}
use Rattle.project_spec.specs.Reading.{blocks_in}
use Rattle.project_spec.proofs.OneRefusal.{JsonLaws, one_refusal, accepted_is_not_refused, one_file}
use Rattle.block_checks.specs.Kept.{AreChecked}
use Rattle.report_command.specs.Counts.{AreCounts, counts_of}
use Rattle.std.proofs.lemmas.Option.{same_Some}
use Rattle.project_spec.specs.Limits.{project_limit}
use Rattle.report_command.specs.Promise.{Ending, said, too_large, ending_of, OfFile, Promised, Found}
use Rattle.report_command.specs.Unknown.{AreUnknown, all_unknown, tables_in}
use Rattle.report_command.specs.Verdict.{Verdict, accepted, refused, IsDocument, IsCounted, IsVerdict}
use Rattle.report_command.specs.declared.counts.Counts.{Counts}

json_laws : JsonLaws
json_laws = record { tree = json_one_tree; fault = same_fault; apart = text_no_fault }

-- one truth for each block

same_flag : (blocks : List Block) (a b : List Bool) (k : ℕ) → AreChecked blocks a → AreChecked blocks b → slice_get a k ≡ Some true → slice_get b k ≡ Some true
same_flag blocks a b k p q h = q.complete k (p.sound k h)

same_list : (a b : List Bool) → length a ≡ length b → ((k : ℕ) → slice_get a k ≡ Some true → slice_get b k ≡ Some true) → ((k : ℕ) → slice_get b k ≡ Some true → slice_get a k ≡ Some true) → a ≡ b
same_list [] [] n f g = refl
same_list [] (y ∷ b) n f g = absurd (omega (arith, n))
same_list (x ∷ a) [] n f g = absurd (omega (arith, n))
same_list (true ∷ a) (true ∷ b) n f g = ap (λ xs. true ∷ xs) (same_list a b (omega (arith, n)) (λ k. f (suc k)) (λ k. g (suc k)))
same_list (false ∷ a) (false ∷ b) n f g = ap (λ xs. false ∷ xs) (same_list a b (omega (arith, n)) (λ k. f (suc k)) (λ k. g (suc k)))
same_list (true ∷ a) (false ∷ b) n f g = absurd (let e = f zero refl in cc)
same_list (false ∷ a) (true ∷ b) n f g = absurd (let e = g zero refl in cc)

same_flags : (blocks : List Block) (a b : List Bool) → AreChecked blocks a → AreChecked blocks b → a ≡ b
same_flags blocks a b p q = same_list a b (p.each ∙ sym q.each) (λ k h. same_flag blocks a b k p q h) (λ k h. same_flag blocks b a k q p h)

pub all_same_flags : (tables : List (List Block)) (a b : List (List Bool)) → AllZip AreChecked tables a → AllZip AreChecked tables b → a ≡ b
all_same_flags [] [] [] p q = refl
all_same_flags [] [] (y ∷ b) p q = absurd q
all_same_flags [] (x ∷ a) b p q = absurd p
all_same_flags (t ∷ tables) [] b p q = absurd p
all_same_flags (t ∷ tables) (x ∷ a) [] p q = absurd q
all_same_flags (t ∷ tables) (x ∷ a) (y ∷ b) p q = ap (λ z. z ∷ a) (same_flags t x y p.0 q.0) ∙ ap (λ zs. y ∷ zs) (all_same_flags tables a b p.1 q.1)

one_count : (tables : List (List Block)) (c d : Counts) → AreCounts tables c → AreCounts tables d → c ≡ d
one_count tables c d p q = p.is ∙ ap (counts_of tables) (all_same_flags tables p.flags q.flags p.checked q.checked) ∙ sym q.is

one_counted : (bytes : List ℕ) (c d : Counts) → IsCounted bytes c → IsCounted bytes d → c ≡ d
one_counted bytes c d p q =
    let same = one_file json_laws bytes p.0 q.0 p.1 q.1 in
    one_count (blocks_in q.0) c d (subst (λ f. AreCounts (blocks_in f) c) same p.2) q.2

-- one document
one_document : (bytes : List ℕ) (a b : Option Tree) → IsDocument bytes a → IsDocument bytes b → a ≡ b
one_document bytes None None p q = refl
one_document bytes None (Some t) p q = absurd (p t q)
one_document bytes (Some t) None p q = absurd (q t p)
one_document bytes (Some t) (Some u) p q = ap Some (json_one_tree max_depth max_depth bytes t u p.1 q.1)

-- the names of its unknown blocks
one_unknown : (tables : List (List Block)) (a b : List (List ℕ)) → AreUnknown tables a → AreUnknown tables b → a ≡ b
one_unknown tables a b p q = p.is ∙ ap (all_unknown tables) (all_same_flags tables p.flags q.flags p.checked q.checked) ∙ sym q.is

pub one_verdict : (bytes : List ℕ) (v w : Verdict) → IsVerdict bytes v → IsVerdict bytes w → v ≡ w
one_verdict bytes (accepted c) (accepted d) p q = ap accepted (one_counted bytes c d p q)
one_verdict bytes (accepted c) (refused r t names) p q = absurd (accepted_is_not_refused json_laws bytes p.0 r p.1 q.0)
one_verdict bytes (refused r t names) (accepted c) p q = absurd (accepted_is_not_refused json_laws bytes q.0 r q.1 p.0)
one_verdict bytes (refused r t a) (refused s u b) p q =
    let same = one_document bytes t u p.1 q.1 in
    ap (λ x. refused x t a) (one_refusal json_laws bytes r s p.0 q.0)
    ∙ ap (λ x. refused s x a) same
    ∙ ap (refused s u) (one_unknown (tables_in u) a b (subst (λ x. AreUnknown (tables_in x) a) same p.2) q.2)

-- Where a file was fetched

-- a file that is held and within its limit
within_limit : (o : Option (List ℕ)) (bytes : List ℕ) (v : Verdict) → o ≡ Some bytes → length bytes ≤ project_limit → ending_of o v ≡ said v
within_limit o bytes v e h =
    let small : ltb project_limit (length bytes) ≡ false = grind (arith, nat_tests) in
    ap (λ x. ending_of x v) e ∙ ap (λ b. cond b (too_large project_limit) (said v)) small

-- a file above it
above_limit : (o : Option (List ℕ)) (v : Verdict) → IsSomeAnd o (λ bytes. project_limit < length bytes) → ending_of o v ≡ too_large project_limit
above_limit None v h = absurd h
above_limit (Some bytes) v h =
    let large : ltb project_limit (length bytes) ≡ true = grind (arith, nat_tests) in
    ap (λ b. cond b (too_large project_limit) (said v)) large

-- a fact of the ending, of a file that was fetched and has this verdict
pub at_verdict : (P : Ending → Type 0) (held : Option Files) (name bytes : List ℕ) (v : Verdict) → length bytes ≤ project_limit → IfSome held (λ files. get files name ≡ Some bytes) → IsVerdict bytes v → P (said v) → Promised held name P
at_verdict P None name bytes v h is one p = tt
at_verdict P (Some files) name bytes v h is one p = λ w of_file.
    let same = one_verdict bytes v w one (subst (λ o. OfFile o w) is of_file) in
    subst P (sym (within_limit (get files name) bytes w is h)) (subst (λ x. P (said x)) same p)

-- a fact of every verdict's ending, of a file that was fetched
pub at_fetched : (P : Ending → Type 0) (held : Option Files) (name bytes : List ℕ) → length bytes ≤ project_limit → IfSome held (λ files. get files name ≡ Some bytes) → ((v : Verdict) → P (said v)) → Promised held name P
at_fetched P None name bytes h is p = tt
at_fetched P (Some files) name bytes h is p = λ w of_file. subst P (sym (within_limit (get files name) bytes w is h)) (p w)

-- a fact of a file that is too large
pub at_large : (P : Ending → Type 0) (held : Option Files) (name : List ℕ) → IfSome held (λ files. IsSomeAnd (get files name) (λ bytes. project_limit < length bytes)) → P (too_large project_limit) → Promised held name P
at_large P None name is p = tt
at_large P (Some files) name is p = λ w of_file. subst P (sym (above_limit (get files name) w is)) p

-- a fact of every ending
pub always : (P : Ending → Type 0) (held : Option Files) (name : List ℕ) → ((e : Ending) → P e) → Promised held name P
always P None name p = tt
always P (Some files) name p = λ w of_file. p (ending_of (get files name) w)

-- and there is one
pub found_verdict : (P : Ending → Type 0) (held : Option Files) (name bytes : List ℕ) (v : Verdict) → length bytes ≤ project_limit → IfSome held (λ files. get files name ≡ Some bytes) → IsVerdict bytes v → P (said v) → Found held name P
found_verdict P None name bytes v h is one p = tt
found_verdict P (Some files) name bytes v h is one p =
    (v, subst (λ o. OfFile o v) (sym is) one, subst P (sym (within_limit (get files name) bytes v is h)) p)
