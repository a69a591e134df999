-- Lines, word by word.
use Rattle.std.proofs.Common.{◌≡◌, ℕ, zero, suc, ◌<◌, List, [], ◌∷◌, ◌++◌, length, refl, ap, ◌∙◌, sym, arith, append_assoc, append-nil}
use Rattle.std.specs.Prelude.{codes, nat_lt, if◌then◌else◌}
use Rattle.std.specs.Fmt.{decimal}
use Rattle.std.specs.List.{join_with_byte}
use Rattle.std.proofs.lemmas.List.Concat.{flat_map-append}
use Rattle.scratch_number.specs.Text as numbers
use Rattle.machine_spec.specs.Program.{Records}
use Rattle.machine_spec.specs.declared.instance.Instance.{Instance}
use Rattle.machine_spec.specs.Stores.{record_of}
use Rattle.machine_spec.specs.FrameText.{line, quoted, style_text, costume_words, instance_line}
use Rattle.stage_frame.specs.Spaced.{spaced}

-- a line is its first word, the others with a space in front of each, and the line end
pub line_spaced : (w : List ℕ) (ws : List (List ℕ)) → line (w ∷ ws) ≡ w ++ (spaced ws ++ 10 ∷ [])
line_spaced w [] = refl
line_spaced w (v ∷ vs) =
    append_assoc w (32 ∷ join_with_byte 32 (v ∷ vs)) (10 ∷ [])
    ∙ ap (λ u. w ++ 32 ∷ u) (line_spaced v vs ∙ sym (append_assoc v (spaced vs) (10 ∷ [])))

-- a word, some words and the line end, appended one after another
pub line_made : (o w : List ℕ) (ws : List (List ℕ)) → ((o ++ w) ++ spaced ws) ++ 10 ∷ [] ≡ o ++ line (w ∷ ws)
line_made o w ws =
    append_assoc (o ++ w) (spaced ws) (10 ∷ [])
    ∙ append_assoc o w (spaced ws ++ 10 ∷ [])
    ∙ sym (ap (λ u. o ++ u) (line_spaced w ws))

-- words in four parts
joined : (o w : List ℕ) (xs ys zs : List (List ℕ)) (v : List ℕ)
    → (((((o ++ w) ++ spaced xs) ++ spaced ys) ++ spaced zs) ++ 32 ∷ v) ++ 10 ∷ [] ≡ o ++ line (w ∷ (xs ++ (ys ++ (zs ++ v ∷ []))))
joined o w xs ys zs v =
    let f : List ℕ → List ℕ = λ word. 32 ∷ word in
    let words : spaced (xs ++ (ys ++ (zs ++ v ∷ []))) ≡ spaced xs ++ (spaced ys ++ (spaced zs ++ 32 ∷ v)) =
    flat_map-append f xs (ys ++ (zs ++ v ∷ []))
    ∙ ap (λ u. spaced xs ++ u) (flat_map-append f ys (zs ++ v ∷ [])
    ∙ ap (λ u. spaced ys ++ u) (flat_map-append f zs (v ∷ []) ∙ ap (λ u. spaced zs ++ u) (append-nil (32 ∷ v)))) in
    let flat : ((((o ++ w) ++ spaced xs) ++ spaced ys) ++ spaced zs) ++ 32 ∷ v ≡ (o ++ w) ++ (spaced xs ++ (spaced ys ++ (spaced zs ++ 32 ∷ v))) = simp append_assoc in
    ap (λ u. u ++ 10 ∷ []) (flat ∙ ap (λ u. (o ++ w) ++ u) (sym words)) ∙ line_made o w (xs ++ (ys ++ (zs ++ v ∷ [])))

-- the line of a sprite
pub sprite_made : (records : Records) (place : ℕ) (i : Instance) (o : List ℕ) → 0 < place
    → (((((o ++ codes "sprite")
    ++ spaced (decimal place ∷ quoted (record_of i records).name ∷ (if nat_lt i.number (length records.targets) then codes "original" else codes "clone") ∷ (if i.visible then codes "shown" else codes "hidden") ∷ []))
    ++ spaced (numbers.text_of i.x ∷ numbers.text_of i.y ∷ numbers.text_of i.direction ∷ numbers.text_of i.size ∷ []))
    ++ spaced (costume_words records i)) ++ 32 ∷ quoted (style_text i.style)) ++ 10 ∷ []
    ≡ o ++ instance_line records place i
sprite_made records zero i o h = absurd (omega arith)
sprite_made records (suc n) i o h =
    joined o (codes "sprite")
    (decimal (suc n) ∷ quoted (record_of i records).name ∷ (if nat_lt i.number (length records.targets) then codes "original" else codes "clone") ∷ (if i.visible then codes "shown" else codes "hidden") ∷ [])
    (numbers.text_of i.x ∷ numbers.text_of i.y ∷ numbers.text_of i.direction ∷ numbers.text_of i.size ∷ [])
    (costume_words records i)
    (quoted (style_text i.style))
