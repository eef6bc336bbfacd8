-- Lines by their definitions: one fact covers them.
-- Assumes nothing.
use mathlib.Core.List.{[], ◌∷◌}
use mathlib.Core.Path.{◌≡◌, refl}
use Rattle.cases.specs.Output.{figures, decimal, pair, hexadecimal, shown, done_line, refused_line, cut_line}

-- `1 ok 56410101`, `1 ok`, `12 no 25 0`, `3 cut`, `0 ok 09af`, `1000 cut`, each with its line feed
pub lines_right :
    (done_line 1 (0x56 ∷ 0x41 ∷ 1 ∷ 1 ∷ []) ∷ done_line 1 [] ∷ refused_line 12 25 0 ∷ cut_line 3 ∷ done_line 0 (0x09 ∷ 0xaf ∷ []) ∷ cut_line 1000 ∷ [])
    ≡ ((49 ∷ 32 ∷ 111 ∷ 107 ∷ 32 ∷ 53 ∷ 54 ∷ 52 ∷ 49 ∷ 48 ∷ 49 ∷ 48 ∷ 49 ∷ 10 ∷ [])
    ∷ (49 ∷ 32 ∷ 111 ∷ 107 ∷ 10 ∷ [])
    ∷ (49 ∷ 50 ∷ 32 ∷ 110 ∷ 111 ∷ 32 ∷ 50 ∷ 53 ∷ 32 ∷ 48 ∷ 10 ∷ [])
    ∷ (51 ∷ 32 ∷ 99 ∷ 117 ∷ 116 ∷ 10 ∷ [])
    ∷ (48 ∷ 32 ∷ 111 ∷ 107 ∷ 32 ∷ 48 ∷ 57 ∷ 97 ∷ 102 ∷ 10 ∷ [])
    ∷ (49 ∷ 48 ∷ 48 ∷ 48 ∷ 32 ∷ 99 ∷ 117 ∷ 116 ∷ 10 ∷ [])
    ∷ [])
unfolding figures decimal pair hexadecimal shown done_line refused_line cut_line
lines_right = refl
