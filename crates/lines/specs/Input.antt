-- What an input line says; none where it is malformed. Assumes nothing.
use Rattle.std.specs.Prelude.{ℕ, cond, List, [], ◌∷◌, Some, None, Option, ◌==◌, slice_index}
use Rattle.std.specs.Option.{option_map}
use Rattle.protocol.specs.declared.call.Call.{Call}
use Rattle.protocol.specs.declared.call.Call.TheVariants.{Tick, Land, Begin, Step}
use Rattle.lines.specs.declared.head.Head.{Head}
use Rattle.lines.specs.Text.{numbers}

-- memory, limit, threads, hazards, roots, nodes, places and bound, in this order
abbrev pub head_of : List ℕ → Head
head_of ns =
    record {
      memory = slice_index ns 0;
      limit = slice_index ns 1;
      settings =
          record {
            threads = slice_index ns 2;
            hazards = slice_index ns 3;
            roots = slice_index ns 4;
            nodes = slice_index ns 5;
            places = slice_index ns 6;
          };
      bound = slice_index ns 7;
    }

-- a first line is eight numbers, each at most 65,535
abbrev pub head_in : List ℕ → Option Head
head_in bs = option_map head_of (numbers 65535 8 bs)

abbrev pub land_of : List ℕ → Call
land_of ns = Land (slice_index ns 0)

abbrev pub begin_of : List ℕ → Call
begin_of ns = Begin (slice_index ns 0) (slice_index ns 1) (slice_index ns 2) (slice_index ns 3)

abbrev pub step_of : List ℕ → Call
step_of ns = Step (slice_index ns 0)

-- the call of a letter with numbers: `l` is 108, `b` is 98, `s` is 115; each number is at most 255
abbrev pub call_of : ℕ → List ℕ → Option Call
call_of c bs =
    cond
    (c == 108)
    (option_map land_of (numbers 255 1 bs))
    (cond (c == 98) (option_map begin_of (numbers 255 4 bs)) (cond (c == 115) (option_map step_of (numbers 255 1 bs)) None))

-- a later line is `t`, byte 116, alone, or a letter, a blank and numbers
abbrev pub call_in : List ℕ → Option Call
call_in [] = None
call_in (c ∷ []) = cond (c == 116) (Some Tick) None
call_in (c ∷ d ∷ bs) = cond (d == 32) (call_of c bs) None
