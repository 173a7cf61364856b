pub mod AttributeLaws
