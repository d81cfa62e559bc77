-- Which tables has a store, as SQL reads their texts?
use Rattle.std.specs.Prelude.{true, false, [], ◌∷◌, ◌++◌, Some, None, codes, List, ℕ, pos}
use Rattle.sqlite_value.specs.declared.value.Value.TheVariants.{Null, Int}
use Rattle.sqlite_value.specs.declared.keys.Collation.TheVariants.{Binary}
use Rattle.sqlite_sql.specs.Term.{lit, col, op2}
use Rattle.sqlite_sql.specs.declared.ops.BinaryOp.TheVariants.{Compare}
use Rattle.sqlite_sql.specs.declared.ops.CompareOp.TheVariants.{Ge}
use Rattle.sqlite_schema.specs.declared.schema.Column.{Column}
use Rattle.sqlite_schema.specs.declared.schema.Table.{Table}
use Rattle.sqlite_schema.specs.declared.schema.Stamps.{Stamps}
use Rattle.sqlite_schema.specs.declared.schema.Schema.{Schema}
use Rattle.sqlite_catalog.specs.Change.{automatics}
use Rattle.sqlite_schema.specs.declared.schema.Action.TheVariants.{NoAction}
use Rattle.sqlite_schema.specs.declared.schema.Kind.TheVariants.{Integer, Text}

abbrev pub unstamped : Stamps
unstamped = record { places = []; terms = []; formats = [] }

abbrev pub key_column : List ℕ → Column
key_column name = record {
  name = name;
  kind = Integer;
  is_strict = true;
  not_null = false;
  default
      = Null;
  collation = Binary;
}

abbrev pub number_column : List ℕ → Column
number_column name = record {
  name = name;
  kind = Integer;
  is_strict = true;
  not_null = true;
  default = Null;
  collation = Binary;
}

abbrev pub text_column : List ℕ → Column
text_column name = record {
  name = name;
  kind = Text;
  is_strict = true;
  not_null = true;
  default =
      Null;
  collation = Binary;
}

abbrev pub version_table : Table
version_table = record {
  name = codes "version";
  tree = 0;
  columns = number_column (codes "n") ∷ [];
  key = None;
  primary = [];
  uniques = [];
  orders = [];
  checks = [];
  references = [];
  computed = [];
  stamps = unstamped;
  is_counted = false;
}

abbrev pub runs_table : Table
runs_table = record {
  name = codes "runs";
  tree = 1;
  columns = key_column (codes "id") ∷ number_column (codes "last") ∷ [];
  key = Some 0;
  primary = 0 ∷ [];
  uniques = [];
  orders = [];
  checks = op2 (Compare Ge Binary) (col 1 2) (lit (Int (pos 0))) ∷ [];
  references = [];
  computed = [];
  stamps = unstamped;
  is_counted = false;
}

abbrev pub games_table : Table
games_table = record {
  name = codes "games";
  tree = 2;
  columns = key_column (codes "id") ∷ number_column (codes "run") ∷ number_column (codes "room")
      ∷ number_column (codes "serial") ∷ number_column (codes "how")
      ∷ number_column (codes "score") ∷ text_column (codes "body") ∷ [];
  key = Some 0;
  primary = 0 ∷ [];
  uniques = (2 ∷ 3 ∷ 4 ∷ []) ∷ [];
  orders = record { digits = 0 } ∷ [];
  checks = [];
  references = [];
  computed = [];
  stamps = unstamped;
  is_counted = false;
}

abbrev pub seats_table : Table
seats_table = record {
  name = codes "seats";
  tree = 4;
  columns = number_column (codes "game") ∷ number_column (codes "seat")
      ∷ text_column (codes "name") ∷ [];
  key = None;
  primary = 1 ∷ 2 ∷ [];
  uniques = (1 ∷ 2 ∷ []) ∷ [];
  orders = record { digits = 0 } ∷ [];
  checks = [];
  references = record {
    columns = 1 ∷ [];
    parent = codes "games";
    parent_columns = codes "id" ∷ [];
    on_delete = NoAction;
    on_update = NoAction;
    is_deferred = false;
  } ∷ [];
  computed = [];
  stamps = unstamped;
  is_counted = false;
}

abbrev pub store_schema : Schema
store_schema = record {
  tables = version_table ∷ runs_table ∷ games_table ∷ seats_table ∷ [];
  indexes = automatics games_table 0 3 games_table.uniques
      ++ automatics seats_table 0 5 seats_table.uniques;
  views = [];
}
