-- The places of faults.
use Rattle.std.proofs.Common.{◌≡◌, ℕ, zero, suc, ◌+◌, ◌-◌, ◌<◌, ◌≤◌, ◌⊎◌, inl, inr, Bool, true, false, cond, List, [], ◌∷◌, ◌++◌, length, take, get_or, Ok, Err, refl, sym, ap, ◌∙◌, subst, arith, append_assoc, length-append, ⊎_elim}
use Rattle.std.proofs.lemmas.List.{take_at}
use Rattle.std.proofs.Math.Seq.{take-append-add}
use Rattle.std.specs.Prelude.{nat_le}
use Rattle.std.proofs.lemmas.Bool.Decides.{nat_tests}
use Rattle.std.specs.Str.{IsUtf8, IsCharBoundary}
use Rattle.std.proofs.lemmas.Str.{IsUtf8-append, IsUtf8-from_ascii, IsUtf8-take, IsCharBoundary-start, IsCharBoundary-after_ascii, IsCharBoundary-before_ascii}
use Rattle.std.proofs.lemmas.Str.Ascii.{IsAscii-nil, IsAscii-cons}
use Rattle.std.specs.Prelude.{nat_lt}
use Rattle.project_json.specs.Tree.{Tree}
use Rattle.project_json.specs.Grammar.{IsJson}
use Rattle.project_json.specs.Reading.{Fault, syntax, too_deep, ◌>>=◌, text_of}
use Rattle.project_json.specs.Text.{IsText, BeginsWithin}
use Rattle.project_json.specs.Refusal.{IsSyntaxAt, IsOpening, IsTooDeepAt}
use Rattle.project_json.proofs.Sound.{bind_ok, text_is}
use Rattle.project_json.proofs.Complete.{text_again}
use Rattle.project_json.proofs.Machine.{Frame, Mode, want, goes, stops, deep, step, Verdict, go_on, is_done, ends, fate}
use Rattle.project_json.proofs.Follows.{text_law}
use Rattle.project_json.proofs.Runs.{Related, related, fate_more, Stops, Good, good, last_of, Cut, cut, finish, close, finishes, ending_ascii, string_stops}

-- the machine takes exactly the texts of the grammar
pub taken : (n : ℕ) (bs : List ℕ) (t : Tree) → IsJson n bs t → fate n bs want [] ≡ Ok tt
taken n bs t p = text_law n bs ∙ ap (λ r. r >>= (λ u. Ok tt)) (text_again n bs t p)

pub text_from : (n : ℕ) (bs : List ℕ) → fate n bs want [] ≡ Ok tt → (t : Tree) × IsJson n bs t
text_from n bs h = let a = bind_ok (text_of n bs) (λ u. Ok tt) tt (sym (text_law n bs) ∙ h) in (a.0, text_is n bs a.0 a.1)

pub faulty : (n : ℕ) (bs : List ℕ) (f : Fault) → text_of n bs ≡ Err f → fate n bs want [] ≡ Err f
faulty n bs f h = text_law n bs ∙ ap (λ r. r >>= (λ u. Ok tt)) h

one_way : (n m : ℕ) → (n ≤ m) ⊎ (m ≤ n)
one_way n m = elim (nat_le n m) as (λ t. nat_le n m ≡ t → (n ≤ m) ⊎ (m ≤ n)) [ true ↦ λ e. inl (grind (arith, nat_tests)) | false ↦ λ e. inr (grind (arith, nat_tests)) ] refl

below_or : (k n : ℕ) → (k ≤ n) ⊎ (n < k)
below_or k n = elim (nat_le k n) as (λ t. nat_le k n ≡ t → (k ≤ n) ⊎ (n < k)) [ true ↦ λ e. inl (grind (arith, nat_tests)) | false ↦ λ e. inr (grind (arith, nat_tests)) ] refl

small_or : (b : ℕ) → (b < 128) ⊎ (128 ≤ b)
small_or b = elim (nat_lt b 128) as (λ t. nat_lt b 128 ≡ t → (b < 128) ⊎ (128 ≤ b)) [ true ↦ λ e. inl (grind (arith, nat_tests)) | false ↦ λ e. inr (grind (arith, nat_tests)) ] refl

-- a prefix that goes past the front takes the next byte
past : (front : List ℕ) (b : ℕ) (tail : List ℕ) (k : ℕ) → length front < k → (x : List ℕ) × (take k (front ++ b ∷ tail) ≡ front ++ b ∷ x)
past [] b tail zero h = absurd (omega arith)
past [] b tail (suc k) h = (take k tail, refl)
past (a ∷ front) b tail zero h = absurd (omega arith)
past (a ∷ front) b tail (suc k) h = let more = past front b tail k (omega arith) in (more.0, ap (λ xs. a ∷ xs) more.1)

at_front : (front : List ℕ) (b : ℕ) (tail : List ℕ) → get_or (front ++ b ∷ tail) (length front) 0 ≡ b
at_front [] b tail = refl
at_front (a ∷ front) b tail = at_front front b tail

last_is : (p b : ℕ) (front rest : List ℕ) → get_or (b ∷ front ++ rest) (length front) 0 ≡ last_of p (b ∷ front)
last_is p b [] rest = refl
last_is p b (c ∷ front) rest = last_is b c front rest

-- behind a byte below 128 a text may be cut
cut_after : (front rest : List ℕ) → IsUtf8 (front ++ rest) → last_of 0 front < 128 → IsCharBoundary (front ++ rest) (length front)
cut_after [] rest u h = IsCharBoundary-start rest u
cut_after (b ∷ front) rest u h =
    let lt : length front < length (b ∷ front ++ rest) = omega (arith, length-append front rest) in
    let same = last_is 0 b front rest in
    subst (IsCharBoundary (b ∷ front ++ rest)) (let e : length front + 1 ≡ suc (length front) = omega arith in e) (IsCharBoundary-after_ascii (b ∷ front ++ rest) (length front) u lt (omega (arith, same)))

cut_end : (front : List ℕ) → IsCharBoundary (front ++ []) (length front)
cut_end front = (omega (arith, length-append front []), λ lt. absurd (omega (arith, length-append front [])))

cut_before : (front : List ℕ) (b : ℕ) (tail : List ℕ) → b < 128 → IsCharBoundary (front ++ b ∷ tail) (length front)
cut_before front b tail h =
    let e = at_front front b tail in
    IsCharBoundary-before_ascii (front ++ b ∷ tail) (length front) (omega (arith, length-append front (b ∷ tail))) (omega (arith, e))

opening_small : (b : ℕ) → IsOpening b → b < 128
opening_small b o = ⊎_elim (λ (e : b ≡ 91). omega arith) (λ (e : b ≡ 123). omega arith) o

module _ (n : ℕ) (bs : List ℕ) (f : Fault) (c : Cut n 0 bs want [] f) where
  -- a text is not cut within a character there
  boundary : (rest : List ℕ) → IsUtf8 (c.front ++ rest) → Stops n c.mode c.frames rest f → IsCharBoundary (c.front ++ rest) (length c.front)
  boundary [] u s = cut_end c.front
  boundary (b ∷ tail) u s =
      ⊎_elim
      (λ (lt : last_of 0 c.front < 128). cut_after c.front (b ∷ tail) u lt)
      (λ (hi : 128 ≤ last_of 0 c.front).
      ⊎_elim
      (λ (p : (step n c.mode c.frames b ≡ stops) × (f ≡ syntax (length (b ∷ tail)))). cut_before c.front b tail (string_stops n c.mode c.frames b (c.edge hi) p.0))
      (λ (p : (step n c.mode c.frames b ≡ deep) × (f ≡ too_deep (length (b ∷ tail)))).
      let d = subst (λ y. Related n (n + 1) b y (step (n + 1) c.mode c.frames b)) p.0 (related n (n + 1) b (omega arith) c.mode c.frames c.open_within) in
      cut_before c.front b tail (opening_small b d.0)) s)
      (small_or (last_of 0 c.front))

  front_utf8 : (rest : List ℕ) → IsUtf8 (c.front ++ rest) → Stops n c.mode c.frames rest f → IsUtf8 c.front
  front_utf8 rest u s = subst IsUtf8 (take_at c.front rest (length c.front) refl) (IsUtf8-take (c.front ++ rest) (length c.front) u (boundary rest u s))

  -- what stands before a fault begins a text
  front_begins : IsUtf8 c.front → BeginsWithin n c.front
  front_begins u =
      let more = finish c.mode ++ close c.frames in
      let a = text_from n (c.front ++ more) (c.leads n (omega arith) more ∙ finishes n c.mode c.frames) in
      (more, a.0, (IsUtf8-append c.front more u (IsUtf8-from_ascii more (ending_ascii c.mode c.frames c.ascii)), a.1))

  front_taken : (tail : List ℕ) → IsUtf8 c.front → BeginsWithin n (take (length c.front) (c.front ++ tail))
  front_taken tail u = subst (BeginsWithin n) (sym (take_at c.front tail (length c.front) refl)) (front_begins u)

  -- nothing that goes on so is a text, of any depth
  none_on : (x : List ℕ) → ((j : ℕ) → n ≤ j → (g : Fault) × (fate j x c.mode c.frames ≡ Err g)) → (m : ℕ) (t : Tree) → IsJson m (c.front ++ x) t → ⊥
  none_on x bad m t p =
      ⊎_elim
      (λ (le : n ≤ m). let g = bad m le in let h = taken m (c.front ++ x) t p in let e = c.leads m le x in let k = g.1 in absurd (cc))
      (λ (le : m ≤ n). let g = bad n (omega arith) in let h = fate_more m n le (c.front ++ x) want [] (omega arith) (taken m (c.front ++ x) t p) in let e = c.leads n (omega arith) x in let k = g.1 in absurd (cc))
      (one_way n m)

  stops_on : (b : ℕ) → step n c.mode c.frames b ≡ stops → (x : List ℕ) (j : ℕ) → n ≤ j → (g : Fault) × (fate j (b ∷ x) c.mode c.frames ≡ Err g)
  stops_on b s x j le = (syntax (length (b ∷ x)), ap (λ y. go_on y (fate j x) (length (b ∷ x))) (subst (λ y. Related n j b y (step j c.mode c.frames b)) s (related n j b le c.mode c.frames c.open_within)))

  syntax_end : IsUtf8 (c.front ++ []) → IsUtf8 c.front → ends c.mode c.frames ≡ Err f → IsSyntaxAt n (c.front ++ []) (length c.front)
  syntax_end w u e =
      record {
        utf8 = w;
        within = omega (arith, length-append c.front []);
        begins = front_taken [] u;
        longest = λ k h g. omega (arith, length-append {A = ℕ} c.front []);
        no_text = λ m t p. none_on [] (λ j le. (f, e)) m t p.1;
      }

  syntax_here : (b : ℕ) (tail : List ℕ) → IsUtf8 (c.front ++ b ∷ tail) → IsUtf8 c.front → step n c.mode c.frames b ≡ stops → IsSyntaxAt n (c.front ++ b ∷ tail) (length c.front)
  syntax_here b tail w u s =
      record {
        utf8 = w;
        within = omega (arith, length-append c.front (b ∷ tail));
        begins = front_taken (b ∷ tail) u;
        longest = λ k h g.
            ⊎_elim (λ (le : k ≤ length c.front). le)
            (λ (lt : length c.front < k).
            let x = past c.front b tail k lt in
            let p = subst (λ xs. IsJson g.0 (xs ++ g.1.0) g.1.1) x.1 g.1.2.1 in
            absurd (none_on (b ∷ x.0 ++ g.1.0) (stops_on b s (x.0 ++ g.1.0)) g.0 g.1.1 (subst (λ xs. IsJson g.0 xs g.1.1) (append_assoc c.front (b ∷ x.0) g.1.0) p)))
            (below_or k (length c.front));
        no_text = λ m t p. none_on (b ∷ tail) (stops_on b s tail) m t p.1;
      }

  deep_here : (b : ℕ) (tail : List ℕ) → IsUtf8 (c.front ++ b ∷ tail) → IsUtf8 c.front → step n c.mode c.frames b ≡ deep → IsTooDeepAt n (c.front ++ b ∷ tail) (length c.front)
  deep_here b tail w u s =
      let d = subst (λ y. Related n (n + 1) b y (step (n + 1) c.mode c.frames b)) s (related n (n + 1) b (omega arith) c.mode c.frames c.open_within) in
      let one : take (length c.front + 1) (c.front ++ b ∷ tail) ≡ c.front ++ b ∷ [] = take-append-add c.front (b ∷ tail) 1 in
      let more = finish d.1 ++ close d.2 in
      let moves : step (n + 1) c.mode c.frames b ≡ goes d.1 d.2 = d.3 (omega arith) in
      let a = text_from (n + 1) ((c.front ++ b ∷ []) ++ more)
      (ap (λ xs. fate (n + 1) xs want []) (append_assoc c.front (b ∷ []) more)
      ∙ c.leads (n + 1) (omega arith) (b ∷ more)
      ∙ ap (λ y. go_on y (fate (n + 1) more) (length (b ∷ more))) moves
      ∙ finishes (n + 1) d.1 d.2) in
      record {
        utf8 = w;
        within = omega (arith, length-append c.front (b ∷ tail));
        begins = front_taken (b ∷ tail) u;
        opens = subst (BeginsWithin (n + 1)) (sym one) (
          more,
          a.0,
          (
            IsUtf8-append (c.front ++ b ∷ []) more (IsUtf8-append c.front (b ∷ []) u (IsUtf8-from_ascii (b ∷ []) (IsAscii-cons b [] (opening_small b d.0) IsAscii-nil)))
                (IsUtf8-from_ascii more (ending_ascii d.1 d.2 (subst (Good b) moves (good (n + 1) b c.mode c.frames c.ascii)).0)),
            a.1,
          ),
        );
        deeper = λ g.
            let p = subst (λ xs. IsJson n (xs ++ g.0) g.1) one g.2.1 in
            let h = taken n (c.front ++ b ∷ g.0) g.1 (subst (λ xs. IsJson n xs g.1) (append_assoc c.front (b ∷ []) g.0) p) in
            let e : fate n (c.front ++ b ∷ g.0) want [] ≡ Err (too_deep (length (b ∷ g.0))) = c.leads n (omega arith) (b ∷ g.0) ∙ ap (λ y. go_on y (fate n g.0) (length (b ∷ g.0))) s in
            absurd (cc);
        bracket = subst IsOpening (sym (at_front c.front b tail)) d.0;
      }

done_left : (b : Bool) (left : ℕ) → ◌≡◌ {A = Verdict} (cond b (Ok tt) (Err (syntax 0))) (Err (syntax left)) → left ≡ 0
done_left true left h = absurd (cc)
done_left false left h = cc

done_deep : (b : Bool) (left : ℕ) → ◌≡◌ {A = Verdict} (cond b (Ok tt) (Err (syntax 0))) (Err (too_deep left)) → ⊥
done_deep true left h = cc
done_deep false left h = cc

ends_left : (m : Mode) (fs : List Frame) (left : ℕ) → ends m fs ≡ Err (syntax left) → left ≡ 0
ends_left m [] left h = done_left (is_done m) left h
ends_left m (f ∷ fs) left h = cc

ends_deep : (m : Mode) (fs : List Frame) (left : ℕ) → ends m fs ≡ Err (too_deep left) → ⊥
ends_deep m [] left h = done_deep (is_done m) left h
ends_deep m (f ∷ fs) left h = cc

syntax_left : (a b : ℕ) → ◌≡◌ {A = Fault} (syntax a) (syntax b) → a ≡ b
syntax_left a b h = cc

deep_left : (a b : ℕ) → ◌≡◌ {A = Fault} (too_deep a) (too_deep b) → a ≡ b
deep_left a b h = cc

-- a syntax fault is at its place
syntax_at : (n : ℕ) (bs : List ℕ) (left : ℕ) (c : Cut n 0 bs want [] (syntax left)) (rest : List ℕ) → IsUtf8 (c.front ++ rest) → Stops n c.mode c.frames rest (syntax left) → (left ≡ length rest) × IsSyntaxAt n (c.front ++ rest) (length c.front)
syntax_at n bs left c [] u s = (ends_left c.mode c.frames left s, syntax_end n bs (syntax left) c u (front_utf8 n bs (syntax left) c [] u s) s)
syntax_at n bs left c (b ∷ tail) u s =
    ⊎_elim
    (λ (p : (step n c.mode c.frames b ≡ stops) × (syntax left ≡ syntax (length (b ∷ tail)))). (syntax_left left _ p.1, syntax_here n bs (syntax left) c b tail u (front_utf8 n bs (syntax left) c (b ∷ tail) u s) p.0))
    (λ (p : (step n c.mode c.frames b ≡ deep) × (syntax left ≡ too_deep (length (b ∷ tail)))). absurd (let e = p.1 in cc)) s

pub syntax_place : (n : ℕ) (bs : List ℕ) (left : ℕ) → IsUtf8 bs → text_of n bs ≡ Err (syntax left) → (left ≤ length bs) × IsSyntaxAt n bs (length bs - left)
syntax_place n bs left u h =
    let c = cut n 0 bs want [] (syntax left) (omega arith) tt (λ hi. absurd (omega arith)) (faulty n bs (syntax left) h) in
    let p = syntax_at n bs left c c.rest (subst IsUtf8 c.parts u) c.fault in
    let l = ap length c.parts in
    let e = p.0 in
    let q : length c.front ≡ length bs - left = omega (arith, l, e, length-append c.front c.rest) in
    (omega (arith, l, e, length-append c.front c.rest), subst (λ xs. IsSyntaxAt n xs (length bs - left)) (sym c.parts) (subst (IsSyntaxAt n (c.front ++ c.rest)) q p.1))

-- and so is a bracket that is too deep
deep_at : (n : ℕ) (bs : List ℕ) (left : ℕ) (c : Cut n 0 bs want [] (too_deep left)) (rest : List ℕ) → IsUtf8 (c.front ++ rest) → Stops n c.mode c.frames rest (too_deep left) → (left ≡ length rest) × IsTooDeepAt n (c.front ++ rest) (length c.front)
deep_at n bs left c [] u s = absurd (ends_deep c.mode c.frames left s)
deep_at n bs left c (b ∷ tail) u s =
    ⊎_elim
    (λ (p : (step n c.mode c.frames b ≡ stops) × (too_deep left ≡ syntax (length (b ∷ tail)))). absurd (let e = p.1 in cc))
    (λ (p : (step n c.mode c.frames b ≡ deep) × (too_deep left ≡ too_deep (length (b ∷ tail)))). (deep_left left _ p.1, deep_here n bs (too_deep left) c b tail u (front_utf8 n bs (too_deep left) c (b ∷ tail) u s) p.0)) s

pub deep_place : (n : ℕ) (bs : List ℕ) (left : ℕ) → IsUtf8 bs → text_of n bs ≡ Err (too_deep left) → (left ≤ length bs) × IsTooDeepAt n bs (length bs - left)
deep_place n bs left u h =
    let c = cut n 0 bs want [] (too_deep left) (omega arith) tt (λ hi. absurd (omega arith)) (faulty n bs (too_deep left) h) in
    let p = deep_at n bs left c c.rest (subst IsUtf8 c.parts u) c.fault in
    let l = ap length c.parts in
    let e = p.0 in
    let q : length c.front ≡ length bs - left = omega (arith, l, e, length-append c.front c.rest) in
    (omega (arith, l, e, length-append c.front c.rest), subst (λ xs. IsTooDeepAt n xs (length bs - left)) (sym c.parts) (subst (IsTooDeepAt n (c.front ++ c.rest)) q p.1))

-- a longer prefix goes on from a shorter one
longer : (j k : ℕ) (bs : List ℕ) → j ≤ k → (x : List ℕ) × (take k bs ≡ take j bs ++ x)
longer zero k bs h = (take k bs, refl)
longer (suc j) zero bs h = absurd (omega arith)
longer (suc j) (suc k) [] h = ([], refl)
longer (suc j) (suc k) (b ∷ bs) h = let more = longer j k bs (omega arith) in (more.0, ap (λ xs. b ∷ xs) more.1)

whole_from : (j : ℕ) (bs : List ℕ) → (x : List ℕ) × (bs ≡ take j bs ++ x)
whole_from zero bs = (bs, refl)
whole_from (suc j) [] = ([], refl)
whole_from (suc j) (b ∷ bs) = let more = whole_from j bs in (more.0, ap (λ xs. b ∷ xs) more.1)

pub shorter : (n j k : ℕ) (bs : List ℕ) → j ≤ k → BeginsWithin n (take k bs) → BeginsWithin n (take j bs)
shorter n j k bs le g =
    let x = longer j k bs le in
    (x.0 ++ g.0, g.1, subst (λ xs. IsText n xs g.1) (ap (λ xs. xs ++ g.0) x.1 ∙ append_assoc (take j bs) x.0 g.0) g.2)

-- one fault at most, at one place
pub one_syntax : (n : ℕ) (bs : List ℕ) (a b : ℕ) → IsSyntaxAt n bs a → IsSyntaxAt n bs b → a ≡ b
one_syntax n bs a b s r = let p = s.longest b r.within (n, r.begins) in let q = r.longest a s.within (n, s.begins) in omega (arith, p, q)

deep_below : (n : ℕ) (bs : List ℕ) (a b : ℕ) → IsTooDeepAt n bs a → IsTooDeepAt n bs b → b ≤ a
deep_below n bs a b s r = ⊎_elim (λ (le : b ≤ a). le) (λ (lt : a < b). absurd (s.deeper (shorter n (a + 1) b bs (omega arith) r.begins))) (below_or b a)

pub one_deep : (n : ℕ) (bs : List ℕ) (a b : ℕ) → IsTooDeepAt n bs a → IsTooDeepAt n bs b → a ≡ b
one_deep n bs a b s r = let p = deep_below n bs a b s r in let q = deep_below n bs b a r s in omega (arith, p, q)

pub not_both : (n : ℕ) (bs : List ℕ) (a b : ℕ) → IsSyntaxAt n bs a → IsTooDeepAt n bs b → ⊥
not_both n bs a b s r = r.deeper (shorter n (b + 1) a bs (s.longest (b + 1) (let w = r.within in omega (arith, w)) (n + 1, r.opens)) s.begins)

pub deep_no_text : (n : ℕ) (bs : List ℕ) (a : ℕ) (t : Tree) → IsTooDeepAt n bs a → IsText n bs t → ⊥
deep_no_text n bs a t r p = let x = whole_from (a + 1) bs in r.deeper (x.0, t, subst (λ xs. IsText n xs t) x.1 p)
