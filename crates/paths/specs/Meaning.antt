-- The path hierarchy over a text, with the laws that every hierarchy keeps.
use Rattle.std.specs.Prelude.{ℕ, List}
use Rattle.std.proofs.Common.{lit≤}
use Rattle.prefix.specs.Meaning.{Meaning}
use Rattle.paths.specs.declared.Place.{Place}
use Rattle.paths.specs.Hierarchy.{is_path, path_name, root_place, parent_place}
use Rattle.paths.specs.Laws.{not_deeper, not_valid_nameless, root_valid, root_nameless, parent_valid, parent_named}

abbrev pub path_meaning : List ℕ → Meaning Place
path_meaning text =
    record {
      name_of = path_name text;
      is_valid = is_path text;
      root_key = root_place;
      parent_of = parent_place text;
      depth = 8;
      depth_positive = lit≤ tt;
      depth_small = lit≤ tt;
      not_deeper = not_deeper text;
      not_valid_nameless = not_valid_nameless text;
      root_valid = root_valid text;
      root_nameless = root_nameless text;
      parent_valid = parent_valid text;
      parent_named = parent_named text;
    }
