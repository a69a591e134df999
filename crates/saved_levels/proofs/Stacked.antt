-- A level on those under it.
use Rattle.std.proofs.Common.{◌≡◌, inl, inr, ℕ, Bool, true, false, List, ◌∷◌, ◌++◌, Option, Some, None, refl, sym, ap, ◌∙◌, subst}
use Rattle.std.specs.Prelude.{slice_get, option_map, option_and_then, if◌then◌else◌, ◌&&◌}
use Rattle.std.specs.List.{list_all}
use Rattle.std.proofs.lemmas.Option.{slice_get_within}
use Rattle.machine_spec.specs.Legal.{scripts_on, warp_on}
use Rattle.machine_spec.specs.Pending.{Item, dos}
use Rattle.machine_spec.specs.Program.{Procedure}
use Rattle.opcode_table.specs.declared.kinds.Kind.{Kind}
use Rattle.machine_spec.specs.Script.{Script, Statement}
use Rattle.project_spec.specs.declared.blocks.Block.{Block}
use Rattle.project_spec.specs.Trees.{call_code, script, statement, target_of_link}
use Rattle.thread_frames.specs.declared.level.Level.{Level}
use Rattle.thread_frames.specs.Fit.{kind_of, top_at}
use Rattle.thread_frames.specs.Reading.{block_items, items_at, marker, first_item}
use Rattle.saved_spec.specs.Kept.{Kept}
use Rattle.saved_spec.specs.Levels.{script_among, in_front, marker_of, top_item}
use Rattle.saved_spec.specs.ThreadRules.{marker_fits}
use Rattle.saved_levels.specs.declared.floors.Floor.{Floor}
use Rattle.saved_levels.specs.declared.floors.Site.{Site}
use Rattle.saved_levels.specs.Making.{called_at, level_made, loop_in, context_in, keeps_under, keeps_first}
use Rattle.saved_levels.specs.Standing.{fitting, fit_on, fitting_first, first_on, sheet_of, program_in, hat_of, IsFloor, script_on, Found, keeps_by, FindsKept, Stacks, Tops}
use Rattle.saved_levels.proofs.Together.{same_some}
use Rattle.saved_levels.proofs.Fitted.{some_call, fits_under, fits_first, params_fit}
use Rattle.saved_levels.proofs.Marks.{mark_of, marks, first_is, first_fits_is, warp-first, warp-dos, all-dos}

module _ (x : Site) (f : Floor) (wanted : ℕ) (k : Kept) (under : List Item) (floor : IsFloor (sheet_of x) (program_in x) (hat_of x) under f) (all : list_all (marker_fits (program_in x)) under ≡ true) where
  abbrev flag : Bool
  flag = warp_on (program_in x) (hat_of x) under

  abbrev made : ℕ → Level
  made id = level_made (Some id) f.warp k

  -- the script that the rules find is that of the floor
  same_script : script_among wanted (scripts_on (program_in x) (hat_of x) under) ≡ script_on x f wanted
  same_script = ap (script_among wanted) (sym floor.scripts)

  -- what the rules make of a script that they find, at a marker and at the top
  abbrev marked : Option Script → Option (List Item)
  marked o = option_and_then (fitting (program_in x)) (option_and_then (in_front (marker_of k flag) under) o)

  abbrev firsted : ℕ → Option Script → Option (List Item)
  firsted clock o = option_and_then (fitting_first (program_in x) clock) (option_and_then (in_front (λ s. Some (top_item k s)) under) o)

  module _ (id : ℕ) (b : Found x f wanted id) where
    abbrev here : Statement
    here = statement (sheet_of x) id b.block

    abbrev rest : Script
    rest = script (sheet_of x) (target_of_link b.block.next)

    tail_fits : list_all (marker_fits (program_in x)) (dos rest ++ under) ≡ true
    tail_fits = all-dos (program_in x) rest under ∙ all

    items_are : (g : Statement → Item) → items_at (sheet_of x) g (Some id) ++ under ≡ g here ∷ (dos rest ++ under)
    items_are g = ap (λ o. block_items (sheet_of x) g id o ++ under) b.held

    marked_is : (c : Bool) → keeps_by (λ kd q. keeps_under kd q k) x f wanted id b ≡ c
        → fit_on (program_in x) (hat_of x) (record { block = Some wanted; kept = k }) under ≡ (if c then Some (mark_of k flag here ∷ (dos rest ++ under)) else None)
    marked_is c e = ap marked (same_script ∙ b.script) ∙ marks (program_in x) here (dos rest ++ under) flag k c e tail_fits

    pub stacks_here : keeps_by (λ kd q. keeps_under kd q k) x f wanted id b ≡ true → Stacks x (record { block = Some wanted; kept = k }) under (Some (made id))
    stacks_here e = (
      marked_is true e ∙ ap (λ w. Some (mark_of k w here ∷ (dos rest ++ under))) (sym floor.warp_is) ∙ ap Some (sym (items_are (marker (made id)))),
      record {
        id = id;
        block = b.block;
        holds = refl;
        found = b.held;
        fits = fits_under (kind_of b.block) _ k (some_call (kind_of b.block) (program_in x) x.target (call_code b.block.mutation)) e;
        params = params_fit k;
      },
    )

    first_if : (clock : ℕ) (c : Bool) → keeps_by (λ kd q. keeps_first clock kd q k) x f wanted id b ≡ c
        → first_on (program_in x) clock (hat_of x) k wanted under ≡ (if c then Some (top_item k here ∷ (dos rest ++ under)) else None)
    first_if clock c e =
        ap (firsted clock) (same_script ∙ b.script)
        ∙ ap (λ v. if v && list_all (marker_fits (program_in x)) (dos rest ++ under) then Some (top_item k here ∷ (dos rest ++ under)) else None) (first_fits_is (program_in x) clock k here ∙ e)
        ∙ by c
      where
        by : (c : Bool) → (if c && list_all (marker_fits (program_in x)) (dos rest ++ under) then Some (top_item k here ∷ (dos rest ++ under)) else None) ≡ (if c then Some (top_item k here ∷ (dos rest ++ under)) else None)
        by true = ap (λ v. if v then Some (top_item k here ∷ (dos rest ++ under)) else None) tail_fits
        by false = refl

    pub tops_here : (clock : ℕ) → keeps_by (λ kd q. keeps_first clock kd q k) x f wanted id b ≡ true → Tops x clock k wanted under (Some (made id))
    tops_here clock e =
        let shown = items_are (first_item (made id)) in record {
          items = first_if clock true e ∙ ap (λ m. Some (m ∷ (dos rest ++ under))) (sym (first_is k here)) ∙ ap Some (sym shown);
          top = record {
            held = slice_get_within (sheet_of x).blocks id b.block b.held;
            fits = ap (λ o. top_at o (context_in k) (loop_in k)) b.held ∙ fits_first clock (kind_of b.block) _ k (some_call (kind_of b.block) (program_in x) x.target (call_code b.block.mutation)) e;
            params = params_fit k;
          };
          id = id;
          holds = refl;
          warp_is = floor.warp_is ∙ sym (warp-dos (program_in x) (hat_of x) rest under) ∙ sym (warp-first (program_in x) (hat_of x) k here (dos rest ++ under))
              ∙ ap (λ m. warp_on (program_in x) (hat_of x) (m ∷ (dos rest ++ under))) (sym (first_is k here)) ∙ ap (warp_on (program_in x) (hat_of x)) (sym shown);
        }

  pub stacks : (o : Option ℕ) → FindsKept (λ kd q. keeps_under kd q k) x f wanted o → Stacks x (record { block = Some wanted; kept = k }) under (option_map made o)
  stacks None (inl none) = ap marked (same_script ∙ none)
  stacks None (inr b) = marked_is b.0 b.1 false b.2
  stacks (Some id) b = stacks_here id b.0 b.1

  pub tops : (clock : ℕ) (o : Option ℕ) → FindsKept (λ kd q. keeps_first clock kd q k) x f wanted o → Tops x clock k wanted under (option_map made o)
  tops clock None (inl none) = ap (firsted clock) (same_script ∙ none)
  tops clock None (inr b) = first_if b.0 b.1 clock false b.2
  tops clock (Some id) b = tops_here id b.0 clock b.1

-- As the code has them at hand

-- the block that was found is that of the number
pub kept_is : (test : Kind → Option Procedure → Bool) (x : Site) (f : Floor) (wanted id : ℕ) (b : Found x f wanted id) (block : Block) (c : Bool) → slice_get (sheet_of x).blocks id ≡ Some block
    → test (kind_of block) (called_at (program_in x) x.target block) ≡ c → keeps_by test x f wanted id b ≡ c
kept_is test x f wanted id b block c held e =
    let same : b.block ≡ block = same_some b.block block (sym b.held ∙ held) in ap (λ v. test (kind_of v) (called_at (program_in x) x.target v)) same ∙ e

-- a level that was told and made
pub stacked : (x : Site) (f : Floor) (wanted : ℕ) (block : Option ℕ) (k : Kept) (o : Option ℕ) (l : Option Level) → block ≡ Some wanted → FindsKept (λ kd q. keeps_under kd q k) x f wanted o
    → option_map (λ id. level_made (Some id) f.warp k) o ≡ l
    → (under : List Item) → IsFloor (sheet_of x) (program_in x) (hat_of x) under f → list_all (marker_fits (program_in x)) under ≡ true → Stacks x (record { block = block; kept = k }) under l
stacked x f wanted block k o l at found made under floor all =
    subst (λ b. Stacks x (record { block = b; kept = k }) under l) (sym at) (subst (Stacks x (record { block = Some wanted; kept = k }) under) made (stacks x f wanted k under floor all o found))

pub topped : (x : Site) (f : Floor) (clock wanted : ℕ) (k : Kept) (o : Option ℕ) (l : Option Level) → FindsKept (λ kd q. keeps_first clock kd q k) x f wanted o
    → option_map (λ id. level_made (Some id) f.warp k) o ≡ l
    → (under : List Item) → IsFloor (sheet_of x) (program_in x) (hat_of x) under f → list_all (marker_fits (program_in x)) under ≡ true → Tops x clock k wanted under l
topped x f clock wanted k o l found made under floor all = subst (Tops x clock k wanted under) made (tops x f wanted k under floor all clock o found)
