-- What each step of a walk keeps.
use Rattle.std.proofs.Common.{◌≡◌, ℕ, zero, suc, ◌+◌, ◌<◌, ◌≤◌, inl, inr, List, [], ◌∷◌, ◌++◌, length, get_or, set, Some, cond, refl, ap, ◌∙◌, sym, subst, arith, length-set, replicate}
use Rattle.std.specs.Prelude.{slice_get, slice_index, count_by}
use Rattle.std.proofs.lemmas.Bool.{cases_lt, cases_eq}
use Rattle.std.proofs.lemmas.List.{get_or-set_same, get_or-set_other, length_push, length-replicate}
use Rattle.std.proofs.lemmas.Option.{slice_get_within, slice_get-get_or}
use Rattle.std.proofs.lemmas.List.Sums.{count_by-le-length, sum_by-cons}
use Rattle.link_graph.specs.declared.trail.Frame.{Frame}
use Rattle.link_graph.specs.declared.walk.Mark.{Mark}
use Rattle.link_graph.specs.declared.walk.Mark.TheVariants.{New, Open, Done}
use Rattle.link_graph.specs.Links.{links_of, Links, IsGraph, Chain, IsCyclic, one, HasRanks, IsListing}
use Rattle.link_graph.specs.Walk.{IsWalk, IsBegun, IsOn, IsReady, IsUnder, IsTrail, is_done, of_new, left, ahead}
use Rattle.link_graph.proofs.Chains.{chain_end, links_within}
use Rattle.link_graph.proofs.Sets.{slice_get-set_same, slice_get-set_other, was, stays, count_by-set_one, count_by-set_none, slice_get-push_last, slice_get-push_old, push_was, contains_at, place_of}

done-open : Done ≡ Open → ⊥
done-open e = cc

done-new : Done ≡ New → ⊥
done-new e = cc

open-new : Open ≡ New → ⊥
open-new e = cc

-- the block becomes open that was new
module _ (g : List (List ℕ)) (marks : List Mark) (w : ℕ) (fresh : slice_get marks w ≡ Some New) where
  done_still : (b : ℕ) → slice_get marks b ≡ Some Done → slice_get (set marks w Open) b ≡ Some Done
  done_still b h = stays marks w b Open Done New fresh done-new h

  open_still : (b : ℕ) → slice_get marks b ≡ Some Open → slice_get (set marks w Open) b ≡ Some Open
  open_still b h = stays marks w b Open Open New fresh open-new h

  done_was : (b : ℕ) → slice_get (set marks w Open) b ≡ Some Done → slice_get marks b ≡ Some Done
  done_was b h = elim (was marks w b Open Done h (slice_get_within marks w New fresh)) [ inl p ↦ absurd (let e = p.1 in cc) | inr p ↦ p.1 ]

  ready_still : (f : Frame) (fs : List Frame) → IsReady g marks f fs → IsReady g (set marks w Open) f fs
  ready_still f fs r = record { opened = open_still f.block r.opened; once = r.once; within = r.within; passed = λ k c lt e. done_still c (r.passed k c lt e) }

  under_still : (b : ℕ) (fs : List Frame) → IsUnder g marks b fs → IsUnder g (set marks w Open) b fs
  under_still b [] u = tt
  under_still b (f ∷ fs) u = (u.0, ready_still f fs u.1, under_still f.block fs u.2)

-- an open block is not new, so it is not the one that is begun
not_on : (g : List (List ℕ)) (marks : List Mark) (w b : ℕ) (fs : List Frame) → slice_get marks w ≡ Some New → IsUnder g marks b fs → IsOn w fs → ⊥
not_on g marks w b [] e u o = o
not_on g marks w b (f ∷ fs) e u (inl s) = let r = u.1.opened in let h : Some New ≡ Some Open = sym e ∙ ap (slice_get marks) (sym s) ∙ r in cc
not_on g marks w b (f ∷ fs) e u (inr o) = not_on g marks w f.block fs e u.2 o

-- a new block is begun, over frames of which the first, if any, links to it
pub entered : (g : List (List ℕ)) (marks : List Mark) (ranks order : List ℕ) (fs : List Frame) (w : ℕ) → IsWalk g marks ranks order fs → IsUnder g marks w fs → slice_get marks w ≡ Some New → IsWalk g (set marks w Open) ranks order (record { block = w; place = 0 } ∷ fs)
entered g marks ranks order fs w x u fresh =
    let lt = slice_get_within marks w New fresh in
    record {
      graph = x.graph;
      marked = length-set marks w Open ∙ x.marked;
      ranked = x.ranked;
      counted = x.counted ∙ sym (count_by-set_none is_done marks w Open New fresh refl refl);
      done = λ b c d l. done_still g marks w fresh c (x.done b c (done_was g marks w fresh b d) l);
      falls = λ b c d l. x.falls b c (done_was g marks w fresh b d) l;
      places = λ b d. x.places b (done_was g marks w fresh b d);
      placed = λ i b e. (done_still g marks w fresh b (x.placed i b e).0, (x.placed i b e).1);
      opened = λ b e. elim (was marks w b Open Open e lt) [ inl p ↦ inl (sym p.0) | inr p ↦ inr (x.opened b p.1) ];
      trail = (record { opened = slice_get-set_same marks w Open lt; once = not_on g marks w w fs fresh u; within = omega arith; passed = λ k c h e. absurd (omega (arith, h)) }, under_still g marks w fresh w fs u);
    }

pub begun_more : (marks : List Mark) (w b : ℕ) → slice_get marks w ≡ Some New → IsBegun marks b → IsBegun (set marks w Open) b
begun_more marks w b fresh (inl o) = inl (stays marks w b Open Open New fresh open-new o)
begun_more marks w b fresh (inr d) = inr (stays marks w b Open Done New fresh done-new d)

-- the work that is left
left-set_open : (g : List (List ℕ)) (marks : List Mark) (w : ℕ) → length marks ≡ length g → slice_get marks w ≡ Some New → left g (set marks w Open) + (length (links_of g w) + 2) ≡ left g marks
left-set_open [] [] w e h = absurd (cc)
left-set_open [] (m ∷ ms) w e h = absurd (omega arith)
left-set_open (r ∷ g) [] w e h = absurd (omega arith)
left-set_open (r ∷ g) (m ∷ ms) zero e h = let s : m ≡ New = cc in let t : of_new r m ≡ length r + 2 = ap (of_new r) s in omega (arith, t)
left-set_open (r ∷ g) (m ∷ ms) (suc w) e h = let ih = left-set_open g ms w (omega arith) h in omega (arith, ih)

left-set_done : (g : List (List ℕ)) (marks : List Mark) (w : ℕ) → slice_get marks w ≡ Some Open → left g (set marks w Done) ≡ left g marks
left-set_done [] ms w h = refl
left-set_done (r ∷ g) [] w h = refl
left-set_done (r ∷ g) (m ∷ ms) zero h = let s : m ≡ Open = cc in let t : of_new r m ≡ 0 = ap (of_new r) s in omega (arith, t)
left-set_done (r ∷ g) (m ∷ ms) (suc w) h = let ih = left-set_done g ms w h in omega (arith, ih)

pub begun_now : (marks : List Mark) (w : ℕ) → slice_get marks w ≡ Some New → IsBegun (set marks w Open) w
begun_now marks w fresh = inl (slice_get-set_same marks w Open (slice_get_within marks w New fresh))

pub entered_fewer : (g : List (List ℕ)) (marks : List Mark) (f : Frame) (fs : List Frame) (w : ℕ) → length marks ≡ length g → slice_get marks w ≡ Some New → left g (set marks w Open) + ahead g (record { block = w; place = 0 } ∷ f ∷ fs) < left g marks + ahead g (f ∷ fs)
entered_fewer g marks f fs w e h = let l = left-set_open g marks w e h in omega (arith, l)

-- the block of the top frame is done: each of its links was followed
module _ (g : List (List ℕ)) (marks : List Mark) (v : ℕ) (opened : slice_get marks v ≡ Some Open) where
  done_kept : (b : ℕ) → slice_get marks b ≡ Some Done → slice_get (set marks v Done) b ≡ Some Done
  done_kept b h = stays marks v b Done Done Open opened done-open h

  apart : (b : ℕ) → slice_get marks b ≡ Some Done → b ≡ v → ⊥
  apart b h e = let s : Some Done ≡ Some Open = sym h ∙ ap (slice_get marks) e ∙ opened in cc

  ready_kept : (f : Frame) (fs : List Frame) → (f.block ≡ v → ⊥) → IsReady g marks f fs → IsReady g (set marks v Done) f fs
  ready_kept f fs n r = record { opened = slice_get-set_other marks v f.block Done n ∙ r.opened; once = r.once; within = r.within; passed = λ k c lt e. done_kept c (r.passed k c lt e) }

  under_kept : (b : ℕ) (fs : List Frame) → (IsOn v fs → ⊥) → IsUnder g marks b fs → IsUnder g (set marks v Done) b fs
  under_kept b [] n u = tt
  under_kept b (f ∷ fs) n u = (u.0, ready_kept f fs (λ e. n (inl e)) u.1, under_kept f.block fs (λ o. n (inr o)) u.2)

  trail_kept : (b : ℕ) (fs : List Frame) → (IsOn v fs → ⊥) → IsUnder g marks b fs → IsTrail g (set marks v Done) fs
  trail_kept b [] n u = tt
  trail_kept b (f ∷ fs) n u = (ready_kept f fs (λ e. n (inl e)) u.1, under_kept f.block fs (λ o. n (inr o)) u.2)

  module _ (ranks order : List ℕ) (f : Frame) (fs : List Frame) (x : IsWalk g marks ranks order (f ∷ fs)) (is : f.block ≡ v) where
    fits : v < length ranks
    fits = let h = slice_get_within marks v Open opened in let m = x.marked in let r = x.ranked in omega arith

    rank_of : slice_index (set ranks v (length order)) v ≡ length order
    rank_of = get_or-set_same ranks v (length order) 0 fits

    rank_kept : (b : ℕ) → slice_get marks b ≡ Some Done → slice_index (set ranks v (length order)) b ≡ slice_index ranks b
    rank_kept b d = get_or-set_other ranks v b (length order) 0 (apart b d)

    all_passed : length (links_of g v) ≤ f.place → (c : ℕ) → Links g v c → slice_get marks c ≡ Some Done
    all_passed end c l =
        let at = place_of (links_of g f.block) c (subst (λ b. Links g b c) (sym is) l) in
        let h = slice_get_within (links_of g f.block) at.0 c at.1 in
        let e : length (links_of g f.block) ≡ length (links_of g v) = ap (λ b. length (links_of g b)) is in
        x.trail.0.passed at.0 c (omega arith) at.1

    pub left_walk : length (links_of g v) ≤ f.place → IsWalk g (set marks v Done) (set ranks v (length order)) (order ++ v ∷ []) fs
    left_walk end =
        let lt = slice_get_within marks v Open opened in
        let once : IsOn v fs → ⊥ = λ o. x.trail.0.once (subst (λ b. IsOn b fs) (sym is) o) in
        let now = λ (b : ℕ) (d : slice_get (set marks v Done) b ≡ Some Done). was marks v b Done Done d lt in
        record {
          graph = x.graph;
          marked = length-set marks v Done ∙ x.marked;
          ranked = length-set ranks v (length order) ∙ x.ranked;
          counted = (let a = count_by-set_one is_done marks v Done Open opened refl refl in let n = x.counted in let l = length_push order v in l ∙ ap (λ m. m + 1) n ∙ sym a);
          done = λ b c d l. elim (now b d) [
            | inl p ↦ done_kept c (all_passed end c (subst (λ a. Links g a c) p.0 l))
            | inr p ↦ done_kept c (x.done b c p.1 l)
          ];
          falls = λ b c d l. elim (now b d) [
            | inl p ↦ (let cd = all_passed end c (subst (λ a. Links g a c) p.0 l) in
                let q = slice_get_within order (slice_index ranks c) c (x.places c cd) in
                let r1 = rank_kept c cd in
                let r2 : slice_index (set ranks v (length order)) b ≡ length order = ap (slice_index (set ranks v (length order))) p.0 ∙ rank_of in
                omega (arith, q, r1, r2))
            | inr p ↦ (let q = x.falls b c p.1 l in
                let r1 = rank_kept c (x.done b c p.1 l) in
                let r2 = rank_kept b p.1 in
                omega (arith, q, r1, r2))
          ];
          places = λ b d. elim (now b d) [
            | inl p ↦ (let r2 : slice_index (set ranks v (length order)) b ≡ length order = ap (slice_index (set ranks v (length order))) p.0 ∙ rank_of in
                ap (slice_get (order ++ v ∷ [])) r2 ∙ slice_get-push_last order v ∙ ap Some (sym p.0))
            | inr p ↦ ap (slice_get (order ++ v ∷ [])) (rank_kept b p.1) ∙ slice_get-push_old order v (slice_index ranks b) b (x.places b p.1)
          ];
          placed = λ i b e. elim (push_was order v i b e) [
            | inl p ↦ (let q = x.placed i b p in (done_kept b q.0, rank_kept b q.0 ∙ q.1))
            | inr p ↦ (ap (slice_get (set marks v Done)) (sym p.1) ∙ slice_get-set_same marks v Done lt, ap (slice_index (set ranks v (length order))) (sym p.1) ∙ rank_of ∙ sym p.0)
          ];
          opened = λ b o. elim (was marks v b Done Open o lt) [
            | inl p ↦ absurd (done-open p.1)
            | inr p ↦ elim (x.opened b p.1) [ inl e ↦ absurd (p.0 (sym e ∙ is)) | inr q ↦ q ]
          ];
          trail = trail_kept f.block fs once x.trail.1;
        }

pub begun_done : (marks : List Mark) (v b : ℕ) → slice_get marks v ≡ Some Open → IsBegun marks b → IsBegun (set marks v Done) b
begun_done marks v b opened h =
    elim (cases_eq b v) [
      | inl e ↦ inr (ap (slice_get (set marks v Done)) e ∙ slice_get-set_same marks v Done (slice_get_within marks v Open opened))
      | inr n ↦ elim h [ inl o ↦ inl (slice_get-set_other marks v b Done n ∙ o) | inr d ↦ inr (slice_get-set_other marks v b Done n ∙ d) ]
    ]

pub left_fewer : (g : List (List ℕ)) (marks : List Mark) (f : Frame) (fs : List Frame) → slice_get marks f.block ≡ Some Open → left g (set marks f.block Done) + ahead g fs < left g marks + ahead g (f ∷ fs)
left_fewer g marks f fs h = let l = left-set_done g marks f.block h in omega (arith, l)

-- the link at the place leads to a done block
pub advanced : (g : List (List ℕ)) (marks : List Mark) (ranks order : List ℕ) (f : Frame) (fs : List Frame) (w : ℕ) → IsWalk g marks ranks order (f ∷ fs) → slice_get (links_of g f.block) f.place ≡ Some w → slice_get marks w ≡ Some Done → IsWalk g marks ranks order (record { block = f.block; place = f.place + 1 } ∷ fs)
advanced g marks ranks order f fs w x link d =
    let r = x.trail.0 in
    let lt = slice_get_within (links_of g f.block) f.place w link in
    record {
      graph = x.graph;
      marked = x.marked;
      ranked = x.ranked;
      counted = x.counted;
      done = x.done;
      falls = x.falls;
      places = x.places;
      placed = x.placed;
      opened = x.opened;
      trail = (record { opened = r.opened; once = r.once; within = omega arith; passed = λ k c h l. elim (cases_lt k f.place) [ inl p ↦ r.passed k c p l | inr p ↦ (let e : k ≡ f.place = omega arith in let s : Some w ≡ Some c = sym link ∙ ap (slice_get (links_of g f.block)) (sym e) ∙ l in let t : w ≡ c = cc in ap (slice_get marks) (sym t) ∙ d) ] }, x.trail.1);
    }

from_under : (g : List (List ℕ)) (marks : List Mark) (w b : ℕ) (fs : List Frame) → IsUnder g marks b fs → IsOn w fs → Chain g w b
from_under g marks w b [] u o = absurd o
from_under g marks w b (f ∷ fs) u (inl e) = one (contains_at (links_of g w) f.place b (ap (λ i. slice_get (links_of g i) f.place) (sym e) ∙ u.0))
from_under g marks w b (f ∷ fs) u (inr o) = chain_end g (from_under g marks w f.block fs u.2 o) (contains_at (links_of g f.block) f.place b u.0)

-- a link to an open block closes a cycle
pub closes : (g : List (List ℕ)) (marks : List Mark) (ranks order : List ℕ) (f : Frame) (fs : List Frame) (w : ℕ) → IsWalk g marks ranks order (f ∷ fs) → slice_get (links_of g f.block) f.place ≡ Some w → slice_get marks w ≡ Some Open → IsCyclic g w
closes g marks ranks order f fs w x link o =
    elim (x.opened w o) [
      | inl e ↦ one (contains_at (links_of g w) f.place w (ap (λ i. slice_get (links_of g i) f.place) (sym e) ∙ link))
      | inr q ↦ chain_end g (from_under g marks w f.block fs x.trail.1 q) (contains_at (links_of g f.block) f.place w link)
    ]

pub walk_same : (g : List (List ℕ)) (marks : List Mark) (ranks : List ℕ) (v n m : ℕ) (o p : List ℕ) (fs hs : List Frame) → m ≡ n → o ≡ p → fs ≡ hs → IsWalk g marks (set ranks v m) o fs → IsWalk g marks (set ranks v n) p hs
walk_same g marks ranks v n m o p fs hs a b c x = subst (IsWalk g marks (set ranks v n) p) c (subst (λ q. IsWalk g marks (set ranks v n) q fs) b (subst (λ k. IsWalk g marks (set ranks v k) o fs) a x))

-- a link, as it was read
pub link_read : (g : List (List ℕ)) (xs : List ℕ) (b k : ℕ) → xs ≡ links_of g b → k < length xs → slice_get (links_of g b) k ≡ Some (get_or xs k 0)
link_read g xs b k e h = ap (λ ys. slice_get ys k) (sym e) ∙ slice_get-get_or xs k 0 h

slice_get-replicate : {X : Type 0} (n b : ℕ) (x y : X) → slice_get (replicate n x) b ≡ Some y → x ≡ y
slice_get-replicate zero b x y h = absurd (let e = h in cc)
slice_get-replicate (suc n) zero x y h = let e = h in cc
slice_get-replicate (suc n) (suc b) x y h = slice_get-replicate n b x y h

count_by-replicate : (n : ℕ) → count_by is_done (replicate n New) ≡ 0
count_by-replicate zero = refl
count_by-replicate (suc n) = let h = count_by-replicate n in let s = sum_by-cons (λ m. cond {A = ℕ} (is_done m) 1 0) New (replicate n New) in omega (arith, s, h)

-- all blocks are new
pub begins : (g : List (List ℕ)) (n : ℕ) → IsGraph g → n ≡ length g → IsWalk g (replicate n New) (replicate n 0) [] []
begins g n x e =
    let no = λ (b : ℕ) (h : slice_get (replicate n New) b ≡ Some Done). let s : New ≡ Done = slice_get-replicate n b New Done h in let z : ⊥ = cc in z in
    record {
      graph = x;
      marked = length-replicate n New ∙ e;
      ranked = length-replicate n 0 ∙ e;
      counted = sym (count_by-replicate n);
      done = λ b c d l. absurd (no b d);
      falls = λ b c d l. absurd (no b d);
      places = λ b d. absurd (no b d);
      placed = λ i b h. absurd (let s = h in cc);
      opened = λ b h. absurd (let s : New ≡ Open = slice_get-replicate n b New Open h in cc);
      trail = tt;
    }

-- every block was begun, and none is open
module _ (g : List (List ℕ)) (marks : List Mark) (ranks order : List ℕ) (x : IsWalk g marks ranks order []) (all : (b : ℕ) → b < length g → IsBegun marks b) where
  all_done : (b : ℕ) → b < length g → slice_get marks b ≡ Some Done
  all_done b h = elim (all b h) [ inl o ↦ absurd (x.opened b o) | inr d ↦ d ]

  pub has_ranks : HasRanks g ranks
  has_ranks = record {
    each = x.ranked;
    bounded = λ b h. (let p = slice_get_within order (slice_index ranks b) b (x.places b (all_done b h)) in let q = count_by-le-length is_done marks in let n = x.counted in let m = x.marked in omega arith);
    falls = λ b c l. x.falls b c (all_done b (links_within g b c l)) l;
  }

  pub is_listing : IsListing ranks order
  is_listing = record {
    places = λ b h. x.places b (all_done b (let e = x.ranked in omega arith));
    placed = λ i b h. (let p = x.placed i b h in let q = slice_get_within marks b Done p.0 in let m = x.marked in let e = x.ranked in (omega arith, p.1));
  }
