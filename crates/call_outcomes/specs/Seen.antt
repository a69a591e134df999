-- What is seen of a shelf and of a sink, before a call and after it.
use Rattle.std.specs.Prelude.{ℕ, List, Option}
use Rattle.sv_channels.specs.Files.{Files}

-- the files that are held, where this is told; how many fetches and puts of each name have failed; how many calls were made;
-- and how many of them have wanted memory
pub record ShelfNow : Type 0 where
  pub held : Option Files
  pub fetch_faults : List ℕ → ℕ
  pub put_faults : List ℕ → ℕ
  pub calls : ℕ
  pub wants : ℕ

abbrev pub shelf_now : {H : Type 0} → (held : H → Option Files) → (fetch_faults put_faults : H → List ℕ → ℕ) → (calls wants : H → ℕ) → H → ShelfNow
shelf_now held fetch_faults put_faults calls wants h =
    record { held = held h; fetch_faults = fetch_faults h; put_faults = put_faults h; calls = calls h; wants = wants h }

-- what was written, where this is told; how many writes have failed; and how many were called for
pub record SinkNow : Type 0 where
  pub written : Option (List ℕ)
  pub faults : ℕ
  pub calls : ℕ

abbrev pub sink_now : {K : Type 0} → (written : K → Option (List ℕ)) → (faults calls : K → ℕ) → K → SinkNow
sink_now written faults calls k = record { written = written k; faults = faults k; calls = calls k }
