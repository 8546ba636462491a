-- The blocks of the terms that were read.
use Rattle.std.specs.Prelude.{Bool, ◌&&◌, List}
use Rattle.std.specs.List.{list_all}
use Rattle.model_core.specs.declared.content.SymbolBlock.{SymbolBlock}
use Rattle.model_core.specs.Content.{has_small_directions, have_few_directions}

-- one direction or two of each symbol, and no block with more than 4
unfoldable pub are_small : List SymbolBlock → Bool
are_small blocks = list_all has_small_directions blocks && have_few_directions blocks
