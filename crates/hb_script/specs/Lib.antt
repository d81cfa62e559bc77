pub mod ScriptLines
pub mod ScriptGrammar
pub mod ScriptReading
pub mod MadeActs
pub mod MadeScripts
pub mod MadeTables
pub mod GamesText
