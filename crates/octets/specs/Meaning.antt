-- The octet hierarchy, with the laws that every hierarchy keeps.
use Rattle.std.specs.Prelude.{refl}
use Rattle.std.proofs.Common.{lit≤}
use Rattle.prefix.specs.Meaning.{Meaning}
use Rattle.octets.specs.declared.AddressPrefix.{AddressPrefix}
use Rattle.octets.specs.Octets.{is_prefix, octet_name, root_prefix, parent_prefix}
use Rattle.octets.specs.Laws.{not_deeper, not_valid_nameless, parent_valid, parent_named}

abbrev pub octet_meaning : Meaning AddressPrefix
octet_meaning =
    record {
      name_of = octet_name;
      is_valid = is_prefix;
      root_key = root_prefix;
      parent_of = parent_prefix;
      depth = 4;
      depth_positive = lit≤ tt;
      depth_small = lit≤ tt;
      not_deeper = not_deeper;
      not_valid_nameless = not_valid_nameless;
      root_valid = refl;
      root_nameless = refl;
      parent_valid = parent_valid;
      parent_named = parent_named;
    }
