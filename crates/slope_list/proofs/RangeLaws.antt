-- The first and the last power.
use Rattle.slope_list.proofs.Common.{◌≤◌, List, length, ap, ◌∙◌, arith, Some, ℤ, ◌≤ℤ◌, ints, Piece, Start}
use Rattle.slope_list.proofs.Common.{last_power, function_of, AreSlopes}
use Rattle.slope_list.specs.Laws.{PiecesBegin, PiecesEnd}
use Rattle.slope_list.proofs.PieceLaws.{ends_rise_to, along_first}
use Rattle.slope_list.proofs.FunctionLaws.{on_inside, on_back}

in_order : (start : Start) (ps : List Piece) → AreSlopes start.first ps → start.first ≤ℤ last_power start.first ps
in_order start ps slopes = ends_rise_to start.first ps slopes 0 (length ps) (omega arith) (omega arith)

pub pieces_begin : PiecesBegin
pieces_begin start ps slopes = record {
  there = on_inside (function_of start ps) start.first (last_power start.first ps) start.first (omega (arith, ints))
      (in_order start ps slopes)
      ∙ ap Some (along_first start.first start.level ps slopes);
  first = λ y w h. (on_back (function_of start ps) start.first (last_power start.first ps) y w h).from;
}

pub pieces_end : PiecesEnd
pieces_end start ps slopes = record {
  value = function_of start ps (last_power start.first ps);
  there = on_inside (function_of start ps) start.first (last_power start.first ps) (last_power start.first ps)
      (in_order start ps slopes) (omega (arith, ints));
  last = λ y w h. (on_back (function_of start ps) start.first (last_power start.first ps) y w h).to;
}
